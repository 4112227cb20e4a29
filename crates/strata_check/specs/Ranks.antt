-- For private functions alone: ranks of places, where no place has a higher one than those that
-- name it.
use Rattle.std.specs.Prelude.{◌≡◌, ◌<◌, ℕ, suc, List, slice_get, slice_index_or, Some}
use Rattle.strata_check.specs.Rows.{row_at, Leads}

abbrev pub rank_at : List ℕ → ℕ → ℕ
rank_at ranks place = slice_index_or ranks place 0

-- the places in a row have ranks under a bound
abbrev pub AreUnder : List ℕ → List ℕ → ℕ → Type 0
AreUnder ranks row bound = (i place : ℕ) → slice_get row i ≡ Some place
    → rank_at ranks place < bound

-- no place has a higher rank than one that names it
abbrev pub NeverRise : List (List ℕ) → List ℕ → Type 0
NeverRise rows ranks = (place : ℕ) → AreUnder ranks (row_at rows place) (suc (rank_at ranks place))

-- no place before this one leads to itself
abbrev pub NoCircleBefore : List (List ℕ) → ℕ → Type 0
NoCircleBefore rows place = (earlier : ℕ) → earlier < place → Leads rows earlier earlier → ⊥
