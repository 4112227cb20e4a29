-- For private functions alone: a search for the places to which a place leads.
use Rattle.std.specs.Prelude.{◌≡◌, ◌⊎◌, ◌+◌, ◌*◌, ◌≤◌, reverse, ℕ, suc, Bool, true, false, List, []}
use Rattle.std.specs.Prelude.{◌∷◌, length, slice_get, Some}
use Rattle.strata_check.specs.Rows.{NamesIt, Leads}
use Rattle.strata_check.specs.Walks.{Stands}

abbrev pub IsSeen : List Bool → ℕ → Type 0
IsSeen seen place = slice_get seen place ≡ Some true

-- it is the start, or it was seen
abbrev pub IsMet : List Bool → ℕ → ℕ → Type 0
IsMet seen start place = (place ≡ start) ⊎ IsSeen seen place

-- all places in a row were seen
abbrev pub IsPassed : List (List ℕ) → List Bool → ℕ → Type 0
IsPassed rows seen place = (other : ℕ) → NamesIt rows place other → IsSeen seen other

-- how many places were not seen
abbrev pub unseen : List Bool → ℕ
unseen [] = 0
unseen (true ∷ seen) = unseen seen
unseen (false ∷ seen) = suc (unseen seen)

-- What was seen is what the start leads to, by way of places of which each either was passed or is
-- still to be passed.
pub record IsSearching (rows : List (List ℕ)) (start : ℕ) (seen : List Bool) (left : List ℕ) : Type
    0 where
  pub few : length seen ≡ length rows
  pub leads : (place : ℕ) → IsSeen seen place → Leads rows start place
  pub met : (place : ℕ) → Stands place left → IsMet seen start place
  pub passed : (place : ℕ) → IsMet seen start place → Stands place left ⊎ IsPassed rows seen place

-- the work that is left
abbrev pub search_left : List Bool → List ℕ → ℕ
search_left seen left = 2 * unseen seen + length left

-- The search went on: the other place was seen, what was seen stays so, and no work was added.
pub record HasSearched (rows : List (List ℕ)) (start : ℕ) (seen_before : List Bool)
    (left_before : List ℕ) (seen : List Bool) (left : List ℕ) (place other : ℕ) : Type 0 where
  pub searching : IsSearching rows start seen (place ∷ reverse left)
  pub there : IsSeen seen other
  pub kept : (u : ℕ) → IsSeen seen_before u → IsSeen seen u
  pub less : search_left seen left ≤ search_left seen_before left_before
