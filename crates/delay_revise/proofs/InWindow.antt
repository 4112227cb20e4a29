-- The rows of a unit in a query lie in its window.
use Rattle.std.proofs.Common.{◌≡◌, ℕ, zero, suc, ◌+◌, ◌-◌, ◌<◌, ◌≤◌, Bool, true, false, ◌&&◌, leb}
use Rattle.std.proofs.Common.{ltb, List, [], map, slice_get, Option, Some, None, refl, sym}
use Rattle.std.proofs.Common.{◌∙◌, ap, arith}
use Rattle.std.specs.Prelude.{option_map, replicate}
use Rattle.std.specs.List.{range_with_len}
use Rattle.std.proofs.lemmas.Bool.Decides.{nat_tests}
use Rattle.std.proofs.lemmas.Option.{slice_get-map}
use Rattle.ground_types.specs.Publication.{rows_of_kind}
use Rattle.ground_types.specs.Rows.{row}
use Rattle.ground_types.specs.Sound.{unit_values}
use Rattle.ground_types.specs.Truth.{Table, holds}
use Rattle.ground_types.proofs.Rows.{runs_are}
use Rattle.ground_types.specs.declared.program.Unit.{Unit}
use Rattle.ground_types.specs.declared.program.UnitKind.{UnitKind}
use Rattle.ground_types.specs.declared.program.UnitKind.TheVariants.{Simple, Static, Derived}
use Rattle.ground_types.specs.declared.program.Program.{Program}
use Rattle.layer_cache.specs.Cached.{empty_by, empty_rows, all_empty}
use Rattle.layer_cache.specs.Told.{fluent_has, value_covers}
use Rattle.simple_fluent.specs.Rows.{pairs}
use Rattle.span_algebra.specs.declared.spans.Span.{Span}
use Rattle.span_algebra.specs.declared.rows.UnitRows.{UnitRows}
use Rattle.span_algebra.specs.declared.rows.UnitRows.TheVariants.{Fluent, Event}
use Rattle.query_ask.specs.Right.{published}
use Rattle.delay_revise.specs.Working.{IsInWindow}
use Rattle.delay_revise.proofs.LookUp.{option_covers, value_covers_pairs}

test_inside : (w q t : ℕ) (b : Bool) → (ltb w t && leb t (w + (q + 1 - w)) && b) ≡ true → (w < t)
    × (t ≤ q + 1)
test_inside w q t true is =
    let low : w < t = grind (arith, nat_tests) in
    let high : t ≤ w + (q + 1 - w) = grind (arith, nat_tests) in
    (low, omega (arith, low, high))
test_inside w q t false is = absurd (grind (arith, nat_tests))

-- the row of a value, if there is one, lies in the window
row_inside : (test : ℕ → ℕ → Bool) (w q t : ℕ) (v : Option ℕ)
    → option_covers (option_map (λ v. row (test v) w q) v) t ≡ true → (w < t) × (t ≤ q + 1)
row_inside test w q t None is = cc
row_inside test w q t (Some v) is = test_inside w q t (test v t)
    (sym ((runs_are (test v) w (q + 1 - w)).each t) ∙ is)

-- so do the rows of all values
rows_inside : (test : ℕ → ℕ → Bool) (count w q v t : ℕ) (rows : List (List Span)) → map pairs rows
    ≡ map (λ v. row (test v) w q) (range_with_len 0 count) →
    value_covers (slice_get rows v) t ≡ true → (w < t) × (t ≤ q + 1)
rows_inside test count w q v t rows same is =
    let there : option_covers (option_map (λ v. row (test v) w q)
    (slice_get (range_with_len 0 count) v)) t ≡ value_covers (slice_get rows v) t =
    sym (value_covers_pairs (slice_get rows v) t
    ∙ ap (λ (o : Option (List (ℕ × ℕ))). option_covers o t)
    (sym (slice_get-map pairs rows v) ∙ ap (λ (l : List (List (ℕ × ℕ))). slice_get l v) same
    ∙ slice_get-map (λ v. row (test v) w q) (range_with_len 0 count) v)) in
    row_inside test w q t (slice_get (range_with_len 0 count) v) (there ∙ is)

-- what a unit comes to in a table lies in the window
pub kind_inside : (table : Table) (number count : ℕ) (kind : UnitKind) (w q v t : ℕ)
    (rows : Option UnitRows)
    → option_map published rows ≡ Some (rows_of_kind table number count kind w q)
    → fluent_has rows v t ≡ true → (w < t) × (t ≤ q + 1)
kind_inside table number count kind w q v t None same is = cc
kind_inside table number count kind w q v t (Some (Event points)) same is = cc
kind_inside table number count (Simple initially initiate terminate) w q v t (Some (Fluent rows))
    same is =
    let all : map pairs rows ≡ map (λ v. row (holds table number v) w q) (range_with_len 0 count)
    = cc in
    rows_inside (holds table number) count w q v t rows all is
kind_inside table number count (Static exprs) w q v t (Some (Fluent rows)) same is =
    let all : map pairs rows ≡ map (λ v. row (holds table number v) w q) (range_with_len 0 count)
    = cc in
    rows_inside (holds table number) count w q v t rows all is
kind_inside table number count (Derived rules) w q v t (Some (Fluent rows)) same is = cc

-- empty rows have no point

no_point : (count v t : ℕ) → value_covers (slice_get (replicate count []) v) t ≡ false
no_point zero v t = refl
no_point (suc n) zero t = refl
no_point (suc n) (suc v) t = no_point n v t

empty_has : (kind : UnitKind) (count v t : ℕ) → fluent_has (Some (empty_by kind count)) v t ≡ false
empty_has (Simple initially initiate terminate) count v t = no_point count v t
empty_has (Static exprs) count v t = no_point count v t
empty_has (Derived rules) count v t = refl

empty_at : (program : Program) (unit : Option Unit) (v t : ℕ)
    → fluent_has (option_map (empty_rows program) unit) v t ≡ false
empty_at program None v t = refl
empty_at program (Some unit) v t = empty_has unit.kind (unit_values program unit) v t

pub empty_inside : (program : Program) (w q : ℕ) → IsInWindow w q (all_empty program)
empty_inside program w q = λ unit v t is.
    let both : false ≡ true =
    sym (empty_at program (slice_get program.units unit) v t)
    ∙ ap (λ (rows : Option UnitRows). fluent_has rows v t)
    (sym (slice_get-map (empty_rows program) program.units unit)) ∙ is in
    cc
