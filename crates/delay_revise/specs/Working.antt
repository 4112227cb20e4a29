-- For private functions alone: what a unit comes to over a table of what its rules name, and what
-- is known of a unit and of rows while they are computed.
use Rattle.std.specs.Prelude.{◌≡◌, ◌<◌, ◌≤◌, ℕ, ◌+◌, Bool, true, false, ◌&&◌, List, map, length}
use Rattle.std.specs.Prelude.{slice_get, sum_by, nat_lt, Option}
use Rattle.std.specs.List.{range_with_len, list_all, AllByRecursion}
use Rattle.ground_types.specs.Truth.{Table, is_value, happens}
use Rattle.ground_types.specs.Recognition.{value_of_unit, static_of_unit, derived_of_unit}
use Rattle.ground_types.specs.Rows.{row, points}
use Rattle.ground_types.specs.Publication.{PublishedRows, fluent_rows, event_row}
use Rattle.ground_types.specs.declared.program.Rule.{Rule}
use Rattle.ground_types.specs.declared.program.UnitKind.{UnitKind}
use Rattle.ground_types.specs.declared.program.UnitKind.TheVariants as unit_kind
use Rattle.layer_cache.specs.Rows.{Cached}
use Rattle.layer_cache.specs.Told.{fluent_has}
use Rattle.event_store.specs.Standing.{Events}
use Rattle.point_rule.specs.Known.{known, is_open}
use Rattle.span_algebra.specs.declared.rows.UnitRows.{UnitRows}
use Rattle.simple_fluent.specs.Rows.{IsValueBelow}

-- a statically determined fluent
abbrev pub is_static : UnitKind → Bool
is_static (unit_kind.Static exprs) = true
is_static kind = false

-- the rows of a unit with so many values over a table, from the value with which it opens the
-- window (w, q]
abbrev pub rows_over : Table → Option ℕ → ℕ → UnitKind → ℕ → ℕ → PublishedRows
rows_over table opening count (unit_kind.Simple initially initiate terminate) w q =
    fluent_rows
    (map (λ v. row (λ t. is_value (value_of_unit table opening (unit_kind.Simple initially initiate
    terminate) w t) v) w q)
    (range_with_len 0 count))
rows_over table opening count (unit_kind.Static exprs) w q =
    fluent_rows (map (λ v. row (static_of_unit table (unit_kind.Static exprs) v) w q)
    (range_with_len 0 count))
rows_over table opening count (unit_kind.Derived rules) w q =
    event_row (points (derived_of_unit table (unit_kind.Derived rules)) w q)

-- at how many points of the window (w, q] the triggers of rules occur
abbrev pub triggers_of : Table → List Rule → ℕ → ℕ → ℕ
triggers_of table rules w q = sum_by (λ rule. length (points (happens table rule.trigger) w q))
    rules

-- at how many of them the query before, which ended at `before`, does not settle the body
abbrev pub open_points : Option ℕ → Cached → Events → ℕ → ℕ → Rule → List ℕ
open_points before cached store w q rule =
    points (λ t. happens (known cached.rows store) rule.trigger t && is_open before cached store
    rule t) w q

abbrev pub touched_of : Option ℕ → Cached → Events → List Rule → ℕ → ℕ → ℕ
touched_of before cached store rules w q =
    sum_by (λ rule. length (open_points before cached store w q rule)) rules

-- the rows of fluents have points among the value points of the window (w, q] alone
abbrev pub IsInWindow : ℕ → ℕ → List UnitRows → Type 0
IsInWindow w q rows = (unit v t : ℕ) → fluent_has (slice_get rows unit) v t ≡ true → (w < t)
    × (t ≤ q + 1)

-- what is known of a simple fluent with so many values, all of whose rules are so
pub record IsSimple (P : Rule → Type 0) (values : ℕ) (initially : Option ℕ)
    (initiate terminate : List Rule) : Type 0 where
  pub opens : IsValueBelow values initially
  pub inits : list_all (λ rule. nat_lt rule.value values) initiate ≡ true
  pub terms : list_all (λ rule. nat_lt rule.value values) terminate ≡ true
  pub each_init : AllByRecursion P initiate
  pub each_term : AllByRecursion P terminate
