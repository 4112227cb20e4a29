-- Public contracts speak by this: *Right for itself*, what a publication promises by its type.
use Rattle.std.specs.Prelude.{◌≡◌, ◌<◌, ℕ, List, map, Option}
use Rattle.span_algebra.specs.Normal.{pairs}
use Rattle.span_algebra.specs.declared.rows.UnitRows.{UnitRows}
use Rattle.span_algebra.specs.declared.rows.UnitRows.TheVariants.{Fluent, Event}
use Rattle.ground_types.specs.Windows.{left, right}
use Rattle.ground_types.specs.Truth.{Table}
use Rattle.ground_types.specs.Recognition.{recognition, is_among, listed}
use Rattle.ground_types.specs.Publication.{PublishedRows, fluent_rows, event_row, rows_of_table}
use Rattle.ground_types.specs.declared.entries.Occ.{Occ}
use Rattle.ground_types.specs.declared.program.Program.{Program}

-- the parts of a publication
pub record Parts : Type 0 where
  pub number : ℕ
  pub front : ℕ
  pub program : Program
  pub opening : List (Option ℕ)
  pub events : List Occ
  pub rows : List UnitRows
  pub evaluations : ℕ

-- the rows of a unit, as the definitions have them
abbrev pub published : UnitRows → PublishedRows
published (Fluent rows) = fluent_rows (map pairs rows)
published (Event points) = event_row points

-- what the events and the opening values make true in the window of the query
abbrev pub table_of : Parts → Table
table_of parts =
    recognition parts.program (listed parts.opening) (is_among parts.events)
    (left parts.program.plan parts.number) (right parts.program.plan parts.number)

-- *Right for itself*: the number is that of a query, and the rows are those of what is true in its
-- window
pub record IsRightForItself (parts : Parts) : Type 0 where
  pub number : parts.number < parts.program.plan.queries
  pub rows : map published parts.rows
      ≡ rows_of_table parts.program (table_of parts) (left parts.program.plan parts.number)
      (right parts.program.plan parts.number)
