-- Public contracts speak by this: the rows of the units of a program.
use Rattle.std.specs.Prelude.{ℕ, ◌^◌, nat_lt, List, map, slice_get, position}
use Rattle.std.specs.Prelude.{if◌then◌else◌, Option, Some, None}
use Rattle.span_algebra.specs.Normal.{covers}
use Rattle.ground_types.specs.Publication.{value_count}
use Rattle.ground_types.specs.declared.program.Unit.{Unit}
use Rattle.ground_types.specs.declared.program.UnitKind.{UnitKind}
use Rattle.ground_types.specs.declared.program.UnitKind.TheVariants as unit_kind
use Rattle.ground_types.specs.declared.program.Program.{Program}
use Rattle.span_algebra.specs.declared.rows.UnitRows.{UnitRows}
use Rattle.span_algebra.specs.declared.rows.UnitRows.TheVariants.{Fluent}
use Rattle.layer_cache.specs.Shapes.{empty_of}

-- the shape of the rows of a unit of this kind with so many values
abbrev pub shape_by : UnitKind → ℕ → Option ℕ
shape_by (unit_kind.Simple initially initiate terminate) values = Some values
shape_by (unit_kind.Static exprs) values = Some values
shape_by (unit_kind.Derived rules) values = None

-- the shape of a unit's rows
abbrev pub unit_shape : Program → Unit → Option ℕ
unit_shape program unit = shape_by unit.kind (value_count (slice_get program.names unit.name))

-- the shapes of the rows of all units, in their order
abbrev pub unit_shapes : Program → List (Option ℕ)
unit_shapes program = map (unit_shape program) program.units

-- no span for any of so many values of a fluent, and no point of an event
abbrev pub empty_by : UnitKind → ℕ → UnitRows
empty_by kind values = empty_of (shape_by kind values)

abbrev pub empty_rows : Program → Unit → UnitRows
empty_rows program unit = empty_of (unit_shape program unit)

-- the empty rows of all units, in their order
abbrev pub all_empty : Program → List UnitRows
all_empty program = map (empty_rows program) program.units

-- a number of a value, if it has 32 bits
abbrev pub small_value : Option ℕ → Option ℕ
small_value None = None
small_value (Some v) = if nat_lt v (2 ^ 32) then Some v else None

-- the first of a fluent's values whose row has the point
abbrev pub first_value_at : Option UnitRows → ℕ → Option ℕ
first_value_at (Some (Fluent rows)) t = small_value (position (λ row. covers row t) rows)
first_value_at rows t = None
