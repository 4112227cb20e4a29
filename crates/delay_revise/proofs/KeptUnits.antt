-- Units that have a count have the rows and the count of the query.
use Rattle.std.proofs.Common.{◌≡◌, ◌⊎◌, inl, inr, ℕ, zero, suc, ◌+◌, ◌<◌, ◌≤◌, eqb, Bool}
use Rattle.std.proofs.Common.{true, false, List, [], ◌∷◌, ◌++◌, map, flat_map, length, take, get_or}
use Rattle.std.proofs.Common.{replicate, slice_get, slice_set, Option, Some, None, sum_by}
use Rattle.std.proofs.Common.{refl, sym, ◌∙◌, ap, ap₂, subst, arith, take_all, append_assoc}
use Rattle.std.proofs.Common.{append-nil}
use Rattle.std.specs.Prelude.{option_map}
use Rattle.std.specs.List.{list_all, enumerate_from}
use Rattle.std.proofs.lemmas.Bool.{and_parts, eqb-true, eqb-false, ltb-true}
use Rattle.std.proofs.lemmas.Grind.{flat_map-append}
use Rattle.std.proofs.lemmas.List.{length-set, length-replicate, take_more}
use Rattle.std.proofs.lemmas.List.Sums.{sum_by-cons}
use Rattle.std.proofs.lemmas.Option.{slice_get_within, slice_get_past, same_Some}
use Rattle.std.proofs.lemmas.Option.{get_or_from_slice_get}
use Rattle.ground_types.specs.Meaning.{units_of_kind, is_layer, are_layers}
use Rattle.ground_types.specs.Members.{contains}
use Rattle.ground_types.specs.Publication.{PublishedRows, rows_of_kind, value_count, publication}
use Rattle.ground_types.specs.Publication.{query_table}
use Rattle.ground_types.specs.Recognition.{kind_of}
use Rattle.ground_types.specs.Sound.{IsSound, unit_values}
use Rattle.ground_types.specs.Touched.{evaluations_of_unit, evaluations}
use Rattle.ground_types.specs.Windows.{left, right}
use Rattle.ground_types.proofs.Members.{contains_either, each_of_all, first_or_rest}
use Rattle.ground_types.specs.declared.entries.Entry.{Entry}
use Rattle.ground_types.specs.declared.program.Unit.{Unit}
use Rattle.ground_types.specs.declared.program.Program.{Program}
use Rattle.layer_cache.specs.Cached.{all_empty, unit_shape, unit_shapes}
use Rattle.layer_cache.specs.Shapes.{shapes, empty_of, emptied}
use Rattle.layer_cache.specs.Told.{fluent_has}
use Rattle.span_algebra.specs.declared.rows.UnitRows.{UnitRows}
use Rattle.query_ask.specs.Right.{published}
use Rattle.delay_revise.specs.Counting.{count_or_none, count_of}
use Rattle.delay_revise.specs.Going.{is_counted, AreKept, AreEnded}
use Rattle.delay_revise.specs.Published.{HaveRowsOf}
use Rattle.delay_revise.specs.Working.{IsInWindow}
use Rattle.delay_revise.proofs.InWindow.{kind_inside, empty_inside}
use Rattle.delay_revise.proofs.LayerParts.{IsFirstUnit, first_unit}
use Rattle.delay_revise.proofs.LookUp.{published_of}
use Rattle.delay_revise.proofs.Putting.{put_here, put_apart}

-- ---- counts that are there

-- the count of a unit that has one
record IsCount (counts : List (Option ℕ)) (unit : ℕ) : Type 0 where
  count : ℕ
  there : slice_get counts unit ≡ Some (Some count)

count_there : (counts : List (Option ℕ)) (unit : ℕ) → is_counted counts unit ≡ true
    → IsCount counts unit
count_there [] unit is = cc
count_there (None ∷ rest) zero is = cc
count_there (Some count ∷ rest) zero is = record { count = count; there = refl }
count_there (other ∷ rest) (suc unit) is =
    let later : IsCount rest unit = count_there rest unit is in
    record { count = later.count; there = later.there }

-- a count that is put leaves those that are there
counted_more : (counts : List (Option ℕ)) (unit count other : ℕ) → is_counted counts other ≡ true
    → is_counted (slice_set counts unit (Some count)) other ≡ true
counted_more [] unit count other is = is
counted_more (x ∷ rest) zero count zero is = refl
counted_more (x ∷ rest) zero count (suc other) is = is
counted_more (x ∷ rest) (suc unit) count zero is = is
counted_more (x ∷ rest) (suc unit) count (suc other) is = counted_more rest unit count other is

pub none_there : (many unit count : ℕ)
    → slice_get (replicate many None) unit ≡ Some (Some count) → ⊥
none_there zero unit count is = cc
none_there (suc many) zero count is = cc
none_there (suc many) (suc unit) count is = none_there many unit count is

-- ---- layers that are ended

-- once all layers are ended each unit has a count
pub all_ended : (program : Program) (counts : List (Option ℕ)) → IsSound program
    → AreEnded program (length program.layers) counts → (unit : ℕ) → unit < length program.units
    → is_counted counts unit ≡ true
all_ended program counts sound ended unit within =
    ended unit (ap (λ (layers : List (List ℕ)). contains (flat_map (λ layer. layer) layers) unit)
    (take_all (length program.layers) program.layers (omega arith)) ∙ sound.layers.all unit within)

pub none_ended : (program : Program) (counts : List (Option ℕ)) → AreEnded program 0 counts
none_ended program counts = λ unit among. cc

pub ended_more : (program : Program) (layer unit count : ℕ) (counts : List (Option ℕ))
    → AreEnded program layer counts
    → AreEnded program layer (slice_set counts unit (Some count))
ended_more program layer unit count counts ended = λ other among.
    counted_more counts unit count other (ended other among)

-- the units of one more layer
flat_more : (layers : List (List ℕ)) (layer : ℕ) (units : List ℕ)
    → slice_get layers layer ≡ Some units
    → flat_map (λ layer. layer) (take (layer + 1) layers)
    ≡ flat_map (λ layer. layer) (take layer layers) ++ units
flat_more layers layer units at =
    ap (flat_map (λ layer. layer)) (take_more layers layer units (slice_get_within layers layer
    units at))
    ∙ flat_map-append (λ layer. layer) (take layer layers) (get_or layers layer units ∷ [])
    ∙ ap (λ (l : List ℕ). flat_map (λ layer. layer) (take layer layers) ++ l)
    (append-nil (get_or layers layer units) ∙ get_or_from_slice_get layers layer units units at)

next_by : (program : Program) (layer unit : ℕ) (units : List ℕ) (counts : List (Option ℕ))
    → AreEnded program layer counts → list_all (is_counted counts) units ≡ true
    → (contains (flat_map (λ layer. layer) (take layer program.layers)) unit ≡ true)
    ⊎ (contains units unit ≡ true) → is_counted counts unit ≡ true
next_by program layer unit units counts ended all (inl before) = ended unit before
next_by program layer unit units counts ended all (inr here) =
    each_of_all (is_counted counts) units unit all here

pub ended_next : (program : Program) (layer : ℕ) (units : List ℕ) (counts : List (Option ℕ))
    → slice_get program.layers layer ≡ Some units → AreEnded program layer counts
    → list_all (is_counted counts) units ≡ true → AreEnded program (layer + 1) counts
ended_next program layer units counts at ended all = λ unit among.
    next_by program layer unit units counts ended all
    (contains_either (flat_map (λ layer. layer) (take layer program.layers)) units unit
    (ap (λ (l : List ℕ). contains l unit) (sym (flat_more program.layers layer units at))
    ∙ among))

-- ---- the units of a layer

layer_at : (program : Program) (below : List ℕ) (layers : List (List ℕ)) (layer : ℕ)
    (units : List ℕ) → are_layers program below layers ≡ true
    → slice_get layers layer ≡ Some units
    → is_layer program (below ++ flat_map (λ layer. layer) (take layer layers)) units ≡ true
layer_at program below [] layer units are at = cc
layer_at program below (first ∷ rest) zero units are at =
    ap₂ (λ (front here : List ℕ). is_layer program front here) (append-nil below)
    (sym (same_Some first units at))
    ∙ (and_parts (is_layer program below first) (are_layers program (below ++ first) rest) are).0
layer_at program below (first ∷ rest) (suc layer) units are at =
    ap (λ (front : List ℕ). is_layer program front units)
    (sym (append_assoc below first (flat_map (λ layer. layer) (take layer rest))))
    ∙ layer_at program (below ++ first) rest layer units
    (and_parts (is_layer program below first) (are_layers program (below ++ first) rest) are).1 at

-- what is known of a unit of a layer
record IsInLayer (program : Program) (below : List ℕ) (unit : ℕ) : Type 0 where
  known : unit < length program.units
  named : list_all (contains below) (units_of_kind (kind_of program unit)) ≡ true

in_layer_by : (program : Program) (below : List ℕ) (x : ℕ) (rest : List ℕ) (unit : ℕ)
    → IsFirstUnit program below x rest → (x ≡ unit) ⊎ (contains rest unit ≡ true)
    → (contains rest unit ≡ true → IsInLayer program below unit) → IsInLayer program below unit
in_layer_by program below x rest unit first (inl same) go =
    subst (IsInLayer program below) same (record {
      known = ltb-true x (length program.units) first.known;
      named = first.named;
    })
in_layer_by program below x rest unit first (inr later) go = go later

in_layer : (program : Program) (below layer : List ℕ) (unit : ℕ)
    → is_layer program below layer ≡ true → contains layer unit ≡ true
    → IsInLayer program below unit
in_layer program below [] unit is among = cc
in_layer program below (x ∷ rest) unit is among =
    let first : IsFirstUnit program below x rest = first_unit program below x rest is in
    in_layer_by program below x rest unit first (first_or_rest x rest unit among)
    (λ later. in_layer program below rest unit first.others later)

unit_in_layer : (program : Program) (layer : ℕ) (units : List ℕ) (unit : ℕ) → IsSound program
    → slice_get program.layers layer ≡ Some units → contains units unit ≡ true
    → IsInLayer program (flat_map (λ layer. layer) (take layer program.layers)) unit
unit_in_layer program layer units unit sound at among =
    in_layer program (flat_map (λ layer. layer) (take layer program.layers)) units unit
    (layer_at program [] program.layers layer units sound.layers.order at) among

-- the units that a unit of a layer names stand in the layers before
pub layer_named : (program : Program) (layer : ℕ) (units : List ℕ) (unit : ℕ) → IsSound program
    → slice_get program.layers layer ≡ Some units → contains units unit ≡ true
    → list_all (contains (flat_map (λ layer. layer) (take layer program.layers)))
    (units_of_kind (kind_of program unit)) ≡ true
layer_named program layer units unit sound at among =
    (unit_in_layer program layer units unit sound at among).named

pub layer_known : (program : Program) (layer : ℕ) (units : List ℕ) (unit : ℕ) → IsSound program
    → slice_get program.layers layer ≡ Some units → contains units unit ≡ true
    → unit < length program.units
layer_known program layer units unit sound at among =
    (unit_in_layer program layer units unit sound at among).known

-- ---- the rows of units that have a count

pub rows_of_ended : (program : Program) (history : List Entry) (k layer : ℕ) (rows : List UnitRows)
    (counts : List (Option ℕ)) → AreKept program history k rows counts
    → AreEnded program layer counts
    → HaveRowsOf program history k (flat_map (λ layer. layer) (take layer program.layers)) rows
rows_of_ended program history k layer rows counts kept ended = λ number unit at among.
    let found : IsCount counts number = count_there counts number (ended number among) in
    (kept.each number found.count found.there).0

-- lists of which each item is known
map_places : (at : ℕ × Unit → PublishedRows) (a : ℕ) (units : List Unit) (rows : List UnitRows)
    → length rows ≡ length units →
    ((k n : ℕ) (unit : Unit) → n ≡ a + k → slice_get units k ≡ Some unit
    → option_map published (slice_get rows k) ≡ Some (at (n, unit))) →
    map published rows ≡ map at (enumerate_from a units)
map_places at a [] [] same each = refl
map_places at a [] (r ∷ rows) same each = absurd (omega (arith, same))
map_places at a (u ∷ units) [] same each = absurd (omega (arith, same))
map_places at a (u ∷ units) (r ∷ rows) same each =
    let here : Some (published r) ≡ Some (at (a, u)) = each 0 a u (omega arith) refl in
    ap₂ (λ (y : PublishedRows) (ys : List PublishedRows). y ∷ ys) (let same : published r
    ≡ at (a, u) = cc in same)
    (map_places at (a + 1) units rows (omega (arith, same)) (λ k n unit is found.
    each (suc k) n unit (omega arith) found))

-- once all units have a count the rows are those that are published
pub all_rows_kept : (program : Program) (history : List Entry) (k : ℕ) (rows : List UnitRows)
    (counts : List (Option ℕ)) → IsSound program → length rows ≡ length program.units
    → AreKept program history k rows counts → AreEnded program (length program.layers) counts
    → map published rows ≡ (publication program history k).rows
all_rows_kept program history k rows counts sound size kept ended =
    map_places
    (λ (unit : ℕ × Unit). rows_of_kind (query_table program history k) unit.0
    (value_count (slice_get program.names unit.1.name)) unit.1.kind
    (left program.plan k) (right program.plan k))
    0 program.units rows size
    (λ place number unit is at.
    let same : place ≡ number = omega arith in
    let there : slice_get program.units number ≡ Some unit = ap (slice_get program.units)
    (sym same) ∙ at in
    let found : IsCount counts number = count_there counts number (all_ended program counts sound
    ended number (slice_get_within program.units number unit there)) in
    ap (λ (n : ℕ). option_map published (slice_get rows n)) same
    ∙ (kept.each number found.count found.there).0
    ∙ published_of program history k number unit there)

-- ---- the counts together

units_same : (program : Program) (below layer : List ℕ) (one two : ℕ → ℕ)
    → ((unit : ℕ) → unit < length program.units → one unit ≡ two unit)
    → is_layer program below layer ≡ true → sum_by one layer ≡ sum_by two layer
units_same program below [] one two same is = refl
units_same program below (unit ∷ rest) one two same is =
    let first : IsFirstUnit program below unit rest = first_unit program below unit rest is in
    sum_by-cons one unit rest
    ∙ ap₂ (λ (m n : ℕ). m + n) (same unit (ltb-true unit (length program.units) first.known))
    (units_same program below rest one two same first.others)
    ∙ sym (sum_by-cons two unit rest)

layers_same : (program : Program) (below : List ℕ) (layers : List (List ℕ)) (one two : ℕ → ℕ)
    → ((unit : ℕ) → unit < length program.units → one unit ≡ two unit)
    → are_layers program below layers ≡ true
    → sum_by (λ layer. sum_by one layer) layers ≡ sum_by (λ layer. sum_by two layer) layers
layers_same program below [] one two same are = refl
layers_same program below (layer ∷ rest) one two same are =
    let both = and_parts (is_layer program below layer) (are_layers program (below ++ layer) rest)
    are in
    sum_by-cons (λ (units : List ℕ). sum_by one units) layer rest
    ∙ ap₂ (λ (m n : ℕ). m + n) (units_same program below layer one two same both.0)
    (layers_same program (below ++ layer) rest one two same both.1)
    ∙ sym (sum_by-cons (λ (units : List ℕ). sum_by two units) layer rest)

-- once all units have a count these are the evaluations of the query
pub total_is : (program : Program) (history : List Entry) (k : ℕ) (rows : List UnitRows)
    (counts : List (Option ℕ)) → IsSound program → length rows ≡ length program.units
    → AreKept program history k rows counts → AreEnded program (length program.layers) counts
    → sum_by (λ layer. sum_by (count_of counts) layer) program.layers
    ≡ evaluations program history k
total_is program history k rows counts sound size kept ended =
    layers_same program [] program.layers (count_of counts) (evaluations_of_unit program history k)
    (λ unit within.
    let found : IsCount counts unit = count_there counts unit (all_ended program counts sound
    ended unit within) in
    ap count_or_none found.there ∙ (kept.each unit found.count found.there).1)
    sound.layers.order

-- ---- rows lie in the window

none_within : (units : List Unit) (number : ℕ) → number < length units
    → slice_get units number ≡ None → ⊥
none_within [] number within at = absurd (omega arith)
none_within (unit ∷ rest) zero within at = cc
none_within (unit ∷ rest) (suc number) within at = none_within rest number (omega arith) at

past_of : (counts : List (Option ℕ)) (number : ℕ) → slice_get counts number ≡ None
    → length counts ≤ number
past_of [] number at = omega arith
past_of (x ∷ rest) zero at = cc
past_of (x ∷ rest) (suc number) at = omega (arith, past_of rest number at)

published_inside : (program : Program) (history : List Entry) (k number v t : ℕ)
    (rows : Option UnitRows) (unit : Option Unit) → slice_get program.units number ≡ unit
    → number < length program.units
    → option_map published rows ≡ slice_get (publication program history k).rows number
    → fluent_has rows v t ≡ true → (left program.plan k < t) × (t ≤ right program.plan k + 1)
published_inside program history k number v t rows None at within are is =
    absurd (none_within program.units number within at)
published_inside program history k number v t rows (Some unit) at within are is =
    kind_inside (query_table program history k) number (unit_values program unit) unit.kind
    (left program.plan k) (right program.plan k) v t rows
    (are ∙ published_of program history k number unit at) is

kept_by : (program : Program) (history : List Entry) (k : ℕ) (rows : List UnitRows)
    (counts : List (Option ℕ)) → length rows ≡ length program.units
    → AreKept program history k rows counts → (number v t : ℕ) (found : Option (Option ℕ))
    → slice_get counts number ≡ found → fluent_has (slice_get rows number) v t ≡ true
    → (left program.plan k < t) × (t ≤ right program.plan k + 1)
kept_by program history k rows counts size kept number v t None at is =
    let both : false ≡ true =
    ap (λ (row : Option UnitRows). fluent_has row v t) (sym (slice_get_past rows number
    (omega (arith, size, kept.size, past_of counts number at)))) ∙ is in
    cc
kept_by program history k rows counts size kept number v t (Some None) at is =
    empty_inside program (left program.plan k) (right program.plan k) number v t
    (ap (λ (row : Option UnitRows). fluent_has row v t) (sym (kept.others number at)) ∙ is)
kept_by program history k rows counts size kept number v t (Some (Some count)) at is =
    published_inside program history k number v t (slice_get rows number)
    (slice_get program.units number) refl
    (omega (arith, kept.size, slice_get_within counts number (Some count) at))
    (kept.each number count at).0 is

pub kept_inside : (program : Program) (history : List Entry) (k : ℕ) (rows : List UnitRows)
    (counts : List (Option ℕ)) → IsSound program → length rows ≡ length program.units
    → AreKept program history k rows counts
    → IsInWindow (left program.plan k) (right program.plan k) rows
kept_inside program history k rows counts sound size kept = λ number v t is.
    kept_by program history k rows counts size kept number v t (slice_get counts number) refl is

-- ---- one more unit gets its rows and its count

module _ (program : Program) (history : List Entry) (k unit count : ℕ) (rows new : List UnitRows)
    (counts : List (Option ℕ)) (kept : AreKept program history k rows counts)
    (known : unit < length program.units)
    (here : option_map published (slice_get new unit)
    ≡ slice_get (publication program history k).rows unit)
    (is : count ≡ evaluations_of_unit program history k unit)
    (apart : (other : ℕ) → (unit ≡ other → ⊥) → slice_get new other ≡ slice_get rows other) where
  counted_here : (other : ℕ) → unit ≡ other
      → slice_get (slice_set counts unit (Some count)) other ≡ Some (Some count)
  counted_here other same =
      ap (slice_get (slice_set counts unit (Some count))) (sym same)
      ∙ put_here counts unit (Some count) (omega (arith, kept.size, known))

  each_by : (other c : ℕ) (b : Bool) → eqb unit other ≡ b
      → slice_get (slice_set counts unit (Some count)) other ≡ Some (Some c)
      → (option_map published (slice_get new other)
      ≡ slice_get (publication program history k).rows other)
      × (c ≡ evaluations_of_unit program history k other)
  each_by other c true at found =
      let same : unit ≡ other = eqb-true unit other at in
      let there : Some (Some count) ≡ Some (Some c) = sym (counted_here other same) ∙ found in
      let counted : count ≡ c = cc in
      subst (λ (n : ℕ). (option_map published (slice_get new n)
      ≡ slice_get (publication program history k).rows n)
      × (c ≡ evaluations_of_unit program history k n)) same (here, sym counted ∙ is)
  each_by other c false at found =
      let differ : unit ≡ other → ⊥ = eqb-false unit other at in
      let before = kept.each other c (sym (put_apart counts unit other (Some count) differ)
      ∙ found) in
      (ap (option_map published) (apart other differ) ∙ before.0, before.1)

  others_by : (other : ℕ) (b : Bool) → eqb unit other ≡ b
      → slice_get (slice_set counts unit (Some count)) other ≡ Some None
      → slice_get new other ≡ slice_get (all_empty program) other
  others_by other true at found =
      let both : Some (Some count) ≡ Some None =
      sym (counted_here other (eqb-true unit other at)) ∙ found in
      cc
  others_by other false at found =
      let differ : unit ≡ other → ⊥ = eqb-false unit other at in
      apart other differ
      ∙ kept.others other (sym (put_apart counts unit other (Some count) differ) ∙ found)

pub kept_more : (program : Program) (history : List Entry) (k unit count : ℕ)
    (rows new : List UnitRows) (counts : List (Option ℕ)) → AreKept program history k rows counts
    → unit < length program.units
    → (option_map published (slice_get new unit)
    ≡ slice_get (publication program history k).rows unit)
    → count ≡ evaluations_of_unit program history k unit
    → ((other : ℕ) → (unit ≡ other → ⊥) → slice_get new other ≡ slice_get rows other)
    → AreKept program history k new (slice_set counts unit (Some count))
kept_more program history k unit count rows new counts kept known here is apart = record {
  size = length-set counts unit (Some count) ∙ kept.size;
  each = λ other c found.
      each_by program history k unit count rows new counts kept known here is apart other c
      (eqb unit other) refl found;
  others = λ other found.
      others_by program history k unit count rows new counts kept known here is apart other
      (eqb unit other) refl found;
}

-- ---- no unit has a count

each_emptied : (rows : List UnitRows) → map emptied rows ≡ map empty_of (shapes rows)
each_emptied [] = refl
each_emptied (row ∷ rest) =
    ap (λ (l : List UnitRows). emptied row ∷ l) (each_emptied rest)

each_empty : (program : Program) (units : List Unit)
    → map empty_of (map (unit_shape program) units)
    ≡ map (λ unit. empty_of (unit_shape program unit)) units
each_empty program [] = refl
each_empty program (unit ∷ rest) =
    ap (λ (l : List UnitRows). empty_of (unit_shape program unit) ∷ l) (each_empty program rest)

-- the rows of all units are emptied
pub emptied_all : (program : Program) (rows : List UnitRows) → shapes rows ≡ unit_shapes program
    → map emptied rows ≡ all_empty program
emptied_all program rows are =
    each_emptied rows ∙ ap (map empty_of) are ∙ each_empty program program.units

pub none_counted : (program : Program) (history : List Entry) (k : ℕ) (rows : List UnitRows)
    → shapes rows ≡ unit_shapes program
    → AreKept program history k (map emptied rows) (replicate (length program.units) None)
none_counted program history k rows are = record {
  size = length-replicate (length program.units) None;
  each = λ unit count at. absurd (none_there (length program.units) unit count at);
  others = λ unit at. ap (λ (l : List UnitRows). slice_get l unit) (emptied_all program rows are);
}
