-- What is read off a publication is true in its window.
use Rattle.std.proofs.Common.{◌≡◌, ℕ, zero, suc, ◌+◌, ◌-◌, ◌<◌, ◌≤◌, Bool, true, ◌&&◌, leb, ltb}
use Rattle.std.proofs.Common.{nat_lt, List, [], ◌∷◌, map, length, slice_get, Option, Some, None}
use Rattle.std.proofs.Common.{refl, ◌∙◌, ap, ap₂, arith, get_or, option_map}
use Rattle.std.specs.List.{range_with_len, enumerate_from}
use Rattle.std.proofs.lemmas.Bool.{and_parts}
use Rattle.std.proofs.lemmas.Bool.Decides.{nat_tests}
use Rattle.std.proofs.lemmas.Option.{slice_get-map, slice_get-get_or, get_or_from_slice_get}
use Rattle.std.proofs.lemmas.Option.{same_Some}
use Rattle.std.proofs.lemmas.List.FromFn.{get_or-range_with_len, length-range_with_len}
use Rattle.ground_types.specs.Publication.{PublishedRows, rows_of_kind, value_count}
use Rattle.ground_types.specs.Rows.{covers, row}
use Rattle.ground_types.specs.Sound.{unit_values, is_fluent, is_fluent_value}
use Rattle.ground_types.specs.Truth.{Table, holds}
use Rattle.ground_types.specs.Windows.{left, right}
use Rattle.ground_types.proofs.Rows.{runs_are}
use Rattle.ground_types.specs.declared.program.Unit.{Unit}
use Rattle.ground_types.specs.declared.program.UnitKind.{UnitKind}
use Rattle.ground_types.specs.declared.program.UnitKind.TheVariants.{Simple, Static, Derived}
use Rattle.query_ask.specs.Right.{Parts, table_of, IsRightForItself}
use Rattle.query_ask.specs.Answers.{said, spans_of, answer_in, yes_if}

zero_first : (v : ℕ) → 0 + v ≡ v
zero_first v = omega arith

-- the number at a place of a range from 0 on
pub range_at : (n v : ℕ) → v < n → slice_get (range_with_len 0 n) v ≡ Some v
range_at n v lt =
    let within : v < length (range_with_len 0 n) = omega (arith, length-range_with_len 0 n) in
    slice_get-get_or (range_with_len 0 n) v 0 within ∙ ap Some (get_or-range_with_len 0 n v 0 lt
    ∙ zero_first v)

-- a test of the points of a window at one of them
pub inside_is : (w q t : ℕ) (b : Bool) → w < t → t ≤ q → (ltb w t && leb t q && b) ≡ b
inside_is w q t b above within = grind (arith, nat_tests)

-- at a value point the row has what the test says
pub covers_inside : (test : ℕ → Bool) (w q t : ℕ) → w < t → t ≤ q + 1 → covers (row test w q) t
    ≡ test t
covers_inside test w q t above within =
    (runs_are test w (q + 1 - w)).each t ∙ inside_is w (w + (q + 1 - w)) t (test t) above
    (omega arith)

-- what is made of a unit, at its place
pub place_of : (at : ℕ × Unit → PublishedRows) (a k n : ℕ) (units : List Unit) (unit : Unit)
    → n ≡ a + k → slice_get units k ≡ Some unit →
    slice_get (map at (enumerate_from a units)) k ≡ Some (at (n, unit))
place_of at a k n [] unit is found = cc
place_of at a zero n (u ∷ units) unit is found =
    let first : a ≡ n = omega arith in
    ap₂ (λ (m : ℕ) (x : Unit). Some (at (m, x))) first (same_Some u unit found)
place_of at a (suc k) n (u ∷ units) unit is found = place_of at (a + 1) k n units unit
    (omega arith) found

spans_at : (at : ℕ → List (ℕ × ℕ)) (count v : ℕ) → v < count
    → get_or (map at (range_with_len 0 count)) v [] ≡ at v
spans_at at count v lt =
    get_or_from_slice_get (map at (range_with_len 0 count)) v (at v) []
    (slice_get-map at (range_with_len 0 count) v ∙ ap (option_map at) (range_at count v lt))

-- the spans of a fluent's value are its row
fluent_spans : (table : Table) (number count : ℕ) (kind : UnitKind) (w q v : ℕ)
    → is_fluent kind ≡ true → v < count →
    spans_of (Some (rows_of_kind table number count kind w q)) v ≡ row (holds table number v) w q
fluent_spans table number count (Simple initially initiate terminate) w q v fluent lt =
    spans_at (λ v. row (holds table number v) w q) count v lt
fluent_spans table number count (Static exprs) w q v fluent lt =
    spans_at (λ v. row (holds table number v) w q) count v lt
fluent_spans table number count (Derived rules) w q v fluent lt = cc

module _ (parts : Parts) (right_is : IsRightForItself parts) (number v t : ℕ)
    (above : left parts.program.plan parts.number < t)
    (within : t ≤ right parts.program.plan parts.number + 1) where
  read_by : (unit : Option Unit) → slice_get parts.program.units number ≡ unit
      → is_fluent_value parts.program unit v ≡ true →
      answer_in (said parts) number v t ≡ yes_if (holds (table_of parts) number v t)
  read_by None at fits = cc
  read_by (Some unit) at fits =
      let table = table_of parts in
      let w = left parts.program.plan parts.number in
      let q = right parts.program.plan parts.number in
      let both = and_parts (is_fluent unit.kind) (nat_lt v (unit_values parts.program unit))
      fits in
      let few : v < unit_values parts.program unit = grind (arith, nat_tests) in
      let found = ap (λ (rows : List PublishedRows). slice_get rows number) right_is.rows
      ∙ place_of (λ unit. rows_of_kind table unit.0
      (value_count (slice_get parts.program.names unit.1.name)) unit.1.kind w q) 0 number number
      parts.program.units unit (omega arith) at in
      ap (λ (rows : Option PublishedRows). yes_if (covers (spans_of rows v) t)) found
      ∙ ap (λ (spans : List (ℕ × ℕ)). yes_if (covers spans t))
      (fluent_spans table number (unit_values parts.program unit) unit.kind w q v both.0 few)
      ∙ ap yes_if (covers_inside (holds table number v) w q t above within)

  pub read_is_true : is_fluent_value parts.program (slice_get parts.program.units number) v ≡ true
      → answer_in (said parts) number v t ≡ yes_if (holds (table_of parts) number v t)
  read_is_true fits = read_by (slice_get parts.program.units number) refl fits
