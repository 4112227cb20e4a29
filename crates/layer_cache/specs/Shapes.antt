-- Public contracts speak by this: the shape of a unit's rows, which is fixed by its kind and by its
-- count of values, so that rows that are put later have it too.
use Rattle.std.specs.Prelude.{ℕ, ◌<◌, List, [], map, replicate, length, Option, Some, None}
use Rattle.span_algebra.specs.declared.rows.UnitRows.{UnitRows}
use Rattle.span_algebra.specs.declared.rows.UnitRows.TheVariants.{Fluent, Event}

-- how many values a fluent's rows tell of; None for those of a derived event
abbrev pub shape : UnitRows → Option ℕ
shape (Fluent rows) = Some (length rows)
shape (Event points) = None

-- the shapes of the rows of all units, in their order
abbrev pub shapes : List UnitRows → List (Option ℕ)
shapes rows = map shape rows

-- the rows of a shape that have no span and no point
abbrev pub empty_of : Option ℕ → UnitRows
empty_of (Some count) = Fluent (replicate count [])
empty_of None = Event []

-- rows of a shape, if there are any, tell of this value
abbrev pub IsValueOf : Option (Option ℕ) → ℕ → Type 0
IsValueOf (Some (Some count)) value = value < count
IsValueOf (Some None) value = ⊥
IsValueOf None value = ⊥

-- the empty rows of the same shape
abbrev pub emptied : UnitRows → UnitRows
emptied rows = empty_of (shape rows)
