-- How many spans and points a publication has: few enough that sums of them fit 128 bits.
use Rattle.std.proofs.Common.{◌≡◌, ℕ, zero, suc, ◌+◌, ◌-◌, ◌*◌, ◌≤◌, nat_le, Bool, true, false}
use Rattle.std.proofs.Common.{cond, eqb, not, List, [], ◌∷◌, length, map, slice_get, refl, sym, ◌∙◌}
use Rattle.std.proofs.Common.{Some, option_map, get_or, take, take_all, ap, arith}
use Rattle.std.specs.List.{list_all, sum_by, range_with_len, enumerate_from}
use Rattle.std.proofs.lemmas.Bool.Decides.{nat_tests}
use Rattle.std.proofs.lemmas.Nat.{mul-le}
use Rattle.std.proofs.lemmas.List.FromFn.{length-range_with_len}
use Rattle.std.proofs.lemmas.List.Filters.{length-filter_both}
use Rattle.std.proofs.lemmas.List.{length-map}
use Rattle.std.proofs.lemmas.List.FromFn.{length-enumerate_from}
use Rattle.std.proofs.lemmas.List.Sums.{sum_by-cons, sum_by_more, sum_by-take-le}
use Rattle.std.proofs.lemmas.Option.{slice_get-map, slice_get_within, get_or_from_slice_get}
use Rattle.ground_types.specs.Windows.{left, right as right', IsSoundPlan}
use Rattle.ground_types.specs.Truth.{Table, holds}
use Rattle.ground_types.specs.Rows.{with_point, runs, row}
use Rattle.ground_types.specs.Publication.{PublishedRows, value_count, rows_of_kind, rows_of_table}
use Rattle.ground_types.specs.declared.plan.Plan.{Plan}
use Rattle.ground_types.specs.declared.program.Unit.{Unit as ProgramUnit}
use Rattle.ground_types.specs.declared.program.UnitKind.{UnitKind}
use Rattle.ground_types.specs.declared.program.UnitKind.TheVariants.{Simple, Static, Derived}
use Rattle.ground_types.specs.declared.program.Name.{Name}
use Rattle.ground_types.specs.declared.program.Program.{Program}
use Rattle.span_algebra.specs.declared.rows.UnitRows.{UnitRows}
use Rattle.query_ask.specs.Right.{Parts, published, table_of, IsRightForItself}
use Rattle.report_text.specs.Report.{span_count, point_count}
use Rattle.report_text.specs.Printed.{rows_in, spans_in, points_in, has_few_values, IsCounted}
use Rattle.std.proofs.lemmas.Bool.{and_parts}

one_or_two : (touches : Bool) (x y s : ℕ × ℕ) → length (cond touches (x ∷ []) (s ∷ y ∷ [])) ≤ 2
one_or_two true x y s = omega arith
one_or_two false x y s = omega arith

-- a point makes at most one more span
length_with_point : (a : ℕ) (spans : List (ℕ × ℕ)) → length (with_point a spans) ≤ length spans + 1
length_with_point a [] = omega arith
length_with_point a (s ∷ []) = one_or_two (eqb s.1 a) (s.0, a + 1) (a, a + 1) s
length_with_point a (s ∷ t ∷ rest) = omega (arith, length_with_point a (t ∷ rest))

one_more : (holds : Bool) (more spans : List (ℕ × ℕ)) (n : ℕ) → length more ≤ length spans + 1
    → length spans ≤ n →
    length (cond holds more spans) ≤ suc n
one_more true more spans n at le = omega arith
one_more false more spans n at le = omega arith

-- there are at most as many runs as points
length_runs : (test : ℕ → Bool) (w n : ℕ) → length (runs test w n) ≤ n
length_runs test w zero = omega arith
length_runs test w (suc n) =
    one_more (test (w + suc n)) (with_point (w + n) (runs test w n)) (runs test w n) n
    (length_with_point (w + n) (runs test w n)) (length_runs test w n)

-- a count of what is published of each unit
sum_at_most : (count : PublishedRows → ℕ) (rows : ℕ × ProgramUnit → PublishedRows)
    (test : ProgramUnit → Bool) (m : ℕ) →
    ((n : ℕ) (unit : ProgramUnit) → test unit ≡ true → count (rows (n, unit)) ≤ m) →
    (n : ℕ) (units : List ProgramUnit) → list_all test units ≡ true
    → sum_by count (map rows (enumerate_from n units)) ≤ length units * m
sum_at_most count rows test m each n [] all = omega arith
sum_at_most count rows test m each n (unit ∷ rest) all =
    let tail : sum_by count (map rows (enumerate_from (n + 1) rest)) ≤ length rest * m =
    sum_at_most count rows test m each (n + 1) rest (and_parts (test unit) (list_all test rest)
    all).1 in
    let head : count (rows (n, unit)) ≤ m = each n unit (and_parts (test unit) (list_all test rest)
    all).0 in
    let parts : sum_by count (rows (n, unit) ∷ map rows (enumerate_from (n + 1) rest))
    ≡ count (rows (n, unit)) + sum_by count (map rows (enumerate_from (n + 1) rest)) =
    sum_by-cons count (rows (n, unit)) (map rows (enumerate_from (n + 1) rest)) in
    omega arith

-- so many rows of at most so many spans
many_rows : (rows : ℕ → List (ℕ × ℕ)) (a count m : ℕ) → ((v : ℕ) → length (rows v) ≤ m) →
    sum_by length (map rows (range_with_len a count)) ≤ count * m
many_rows rows a zero m each = omega arith
many_rows rows a (suc n) m each =
    omega (
      arith,
      sum_by-cons length (rows a) (map rows (range_with_len (a + 1) n)),
      each a,
      many_rows rows (a + 1) n m each,
    )

-- a unit has at most 64 rows of spans
spans_of_kind : (table : Table) (number count : ℕ) (kind : UnitKind) (w q : ℕ) → count ≤ 64 →
    span_count (rows_of_kind table number count kind w q) ≤ 64 * (q + 1 - w)
spans_of_kind table number count (Simple initially initiate terminate) w q few =
    omega (
      arith,
      many_rows (λ v. row (holds table number v) w q) 0 count (q + 1 - w)
          (λ v. length_runs (holds table number v) w (q + 1 - w)),
      mul-le count (q + 1 - w) 64 (q + 1 - w) few (omega arith),
    )
spans_of_kind table number count (Static exprs) w q few =
    omega (
      arith,
      many_rows (λ v. row (holds table number v) w q) 0 count (q + 1 - w)
          (λ v. length_runs (holds table number v) w (q + 1 - w)),
      mul-le count (q + 1 - w) 64 (q + 1 - w) few (omega arith),
    )
spans_of_kind table number count (Derived rules) w q few = omega arith

-- or one of points
points_of_kind : (table : Table) (number count : ℕ) (kind : UnitKind) (w q : ℕ) →
    point_count (rows_of_kind table number count kind w q) ≤ q + 1 - w
points_of_kind table number count (Simple initially initiate terminate) w q = omega arith
points_of_kind table number count (Static exprs) w q = omega arith
points_of_kind table number count (Derived rules) w q =
    omega (
      arith,
      length-filter_both (table.derived number) (λ t. not (table.derived number t)) (λ t. refl)
          (range_with_len (w + 1) (q - w)),
      length-range_with_len (w + 1) (q - w),
    )

few_values : (names : List Name) (n : ℕ) → list_all has_few_values names ≡ true
    → value_count (slice_get names n) ≤ 64
few_values [] n all = omega arith
few_values (name ∷ names) zero all =
    let here : nat_le (length name.values) 64 ≡ true =
    (and_parts (has_few_values name) (list_all has_few_values names) all).0 in
    grind (arith, nat_tests)
few_values (name ∷ names) (suc n) all = few_values names n (and_parts (has_few_values name)
    (list_all has_few_values names) all).1

all_pass : (units : List ProgramUnit) → list_all (λ unit. true) units ≡ true
all_pass [] = refl
all_pass (unit ∷ units) = all_pass units

spans_of_table : (program : Program) (table : Table) (w q : ℕ) → IsCounted program →
    sum_by span_count (rows_of_table program table w q) ≤ length program.units * (64 * (q + 1 - w))
spans_of_table program table w q counted =
    sum_at_most span_count (λ unit. rows_of_kind table unit.0
    (value_count (slice_get program.names unit.1.name)) unit.1.kind w q)
    (λ unit. true) (64 * (q + 1 - w))
    (λ n unit is. spans_of_kind table n (value_count (slice_get program.names unit.name)) unit.kind
    w q (few_values program.names unit.name counted.values_few))
    0 program.units (all_pass program.units)

points_of_table : (program : Program) (table : Table) (w q : ℕ) →
    sum_by point_count (rows_of_table program table w q) ≤ length program.units * (q + 1 - w)
points_of_table program table w q =
    sum_at_most point_count (λ unit. rows_of_kind table unit.0
    (value_count (slice_get program.names unit.1.name)) unit.1.kind w q)
    (λ unit. true) (q + 1 - w)
    (λ n unit is. points_of_kind table n (value_count (slice_get program.names unit.name))
    unit.kind w q)
    0 program.units (all_pass program.units)

-- a window has a value point more than event points
width : (plan : Plan) (k : ℕ) → IsSoundPlan plan → right' plan k + 1 - left plan k ≤ 1000000000001
width plan k sound = omega (arith, sound.window_most)

-- the spans of a publication
pub few_spans : (parts : Parts) → IsCounted parts.program → IsRightForItself parts
    → spans_in parts ≤ 65536 * (64 * 1000000000001)
few_spans parts counted right =
    let w : ℕ = left parts.program.plan parts.number in
    let q : ℕ = right' parts.program.plan parts.number in
    omega (
      arith,
      ap (λ (r : List PublishedRows). sum_by span_count r) right.rows,
      spans_of_table parts.program (table_of parts) w q counted,
      mul-le (length parts.program.units) (64 * (q + 1 - w)) 65536 (64 * 1000000000001)
          counted.sound.units_most (omega (
            arith,
            width parts.program.plan parts.number
                counted.sound.plan,
          )),
    )

-- and its points
pub few_points : (parts : Parts) → IsCounted parts.program → IsRightForItself parts
    → points_in parts ≤ 65536 * 1000000000001
few_points parts counted right =
    let w : ℕ = left parts.program.plan parts.number in
    let q : ℕ = right' parts.program.plan parts.number in
    omega (
      arith,
      ap (λ (r : List PublishedRows). sum_by point_count r) right.rows,
      points_of_table parts.program (table_of parts) w q,
      mul-le (length parts.program.units) (q + 1 - w) 65536 1000000000001
          counted.sound.units_most (width parts.program.plan parts.number counted.sound.plan),
    )

-- a publication has rows for each unit of its program
pub rows_for_each : (parts : Parts) → IsRightForItself parts →
    length (rows_in parts) ≡ length parts.program.units
rows_for_each parts right =
    ap length right.rows ∙ length-map (enumerate_from 0 parts.program.units) _
    ∙ length-enumerate_from 0 parts.program.units

-- what is counted as far as a unit, and the rows of that unit
pub one_more_unit : (count : PublishedRows → ℕ) (parts : Parts) (unit : ℕ) (row : UnitRows)
    → slice_get parts.rows unit ≡ Some row →
    sum_by count (take unit (rows_in parts)) + count (published row)
    ≡ sum_by count (take (unit + 1) (rows_in parts))
one_more_unit count parts unit row at =
    let seen : slice_get (rows_in parts) unit ≡ Some (published row) =
    slice_get-map published parts.rows unit ∙ ap (option_map published) at in
    let same : get_or (rows_in parts) unit (published row) ≡ published row =
    get_or_from_slice_get (rows_in parts) unit (published row) (published row) seen in
    ap (λ (r : PublishedRows). sum_by count (take unit (rows_in parts)) + count r) (sym same)
    ∙ sym (sum_by_more count (rows_in parts) unit (published row)
    (slice_get_within (rows_in parts) unit (published row) seen))

-- it is at most what is counted of all
pub at_most_all : (count : PublishedRows → ℕ) (parts : Parts) (unit : ℕ) (m : ℕ)
    → sum_by count (rows_in parts) ≤ m → sum_by count (take unit (rows_in parts)) ≤ m
at_most_all count parts unit m all = omega (arith, all, sum_by-take-le count (rows_in parts) unit)

-- all units
pub all_units : (count : PublishedRows → ℕ) (parts : Parts) (unit : ℕ) → IsRightForItself parts
    → length parts.program.units ≤ unit
    → sum_by count (take unit (rows_in parts)) ≡ sum_by count (rows_in parts)
all_units count parts unit right le =
    ap (sum_by count) (take_all unit (rows_in parts) (omega (
      arith,
      le,
      rows_for_each parts
          right,
    )))
