-- For private functions alone: which names occur in the bodies of which, by their places.
use Rattle.std.specs.Prelude.{◌≡◌, ◌<◌, ℕ, List, [], ◌∷◌, ◌++◌, length, filter_map, flat_map}
use Rattle.std.specs.Prelude.{slice_get, slice_index_or, slice_set, option_to_list, Option, Some}
use Rattle.ground_types.specs.declared.program.Name.{Name}
use Rattle.rule_forms.specs.declared.form.Atom.{Atom}
use Rattle.rule_forms.specs.Forms.{PlainForm, PlainStatement, conditions_of}
use Rattle.ground_types.specs.Words.{place_in, name_words}
use Rattle.decl_known.specs.Mentions.{Mention, head_of, body_mentions, leaves_of}
use Rattle.decl_known.specs.Occurrences.{bodies_of}

-- ---- rows of places

-- the row of a place, empty where there is none
abbrev pub row_at : List (List ℕ) → ℕ → List ℕ
row_at rows place = slice_index_or rows place []

-- a row names a place
abbrev pub NamesIt : List (List ℕ) → ℕ → ℕ → Type 0
NamesIt rows place other = (i : ℕ) × (slice_get (row_at rows place) i ≡ Some other)

-- a way from one place to the last: each is named in the row of the one before it
abbrev pub IsWay : List (List ℕ) → ℕ → List ℕ → ℕ → Type 0
IsWay rows place [] last = NamesIt rows place last
IsWay rows place (next ∷ more) last = NamesIt rows place next × IsWay rows next more last

abbrev pub Leads : List (List ℕ) → ℕ → ℕ → Type 0
Leads rows place last = (between : List ℕ) × IsWay rows place between last

-- some place leads to itself
abbrev pub HasCircle : List (List ℕ) → Type 0
HasCircle rows = (place : ℕ) × (place < length rows) × Leads rows place place

-- the first place that leads to itself
pub record IsFirstCircle (rows : List (List ℕ)) (place : ℕ) : Type 0 where
  pub within : place < length rows
  pub leads : Leads rows place place
  pub none_before : (earlier : ℕ) → earlier < place → Leads rows earlier earlier → ⊥

-- each place that is named has a row
abbrev pub AreInside : List (List ℕ) → Type 0
AreInside rows = (place other : ℕ) → NamesIt rows place other → other < length rows

-- ---- the rows of names

abbrev pub places_of : List Name → List (List ℕ) → List ℕ
places_of names words = filter_map (place_in (name_words names)) words

-- each name has in its row the places of the names in its bodies
pub record AreRows (rules : List PlainStatement) (names : List Name) (rows : List (List ℕ)) : Type
    0 where
  pub len : length rows ≡ length names
  pub each : (place : ℕ) (name : Name) → slice_get names place ≡ Some name → slice_get rows place
      ≡ Some (places_of names (bodies_of rules name.word))

-- ---- one rule after the other

abbrev pub mention_place : List Name → Mention → Option ℕ
mention_place names m = place_in (name_words names) m.atom.name

-- the place of the name of an atom, where it is declared
abbrev pub atom_places : List Name → Atom → List ℕ
atom_places names atom = option_to_list (place_in (name_words names) atom.name)

-- the places of the names of some atoms
abbrev pub mention_places : List Name → List Mention → List ℕ
mention_places names ms = filter_map (mention_place names) ms

abbrev pub body_places : List Name → PlainForm → List ℕ
body_places names form = mention_places names (flat_map body_mentions (conditions_of form)
    ++ leaves_of form)

abbrev pub add_at : List (List ℕ) → List ℕ → List ℕ → List (List ℕ)
add_at rows [] more = rows
add_at rows (head ∷ heads) more = slice_set rows head (row_at rows head ++ more)

-- the rows with those names that a rule adds to the row of its head
abbrev pub with_rule : List Name → List (List ℕ) → PlainForm → List (List ℕ)
with_rule names rows form = add_at rows (mention_places names (head_of form))
    (body_places names form)
