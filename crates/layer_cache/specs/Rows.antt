-- Public contracts speak by this: what a cache holds.
use Rattle.std.specs.Prelude.{List}
use Rattle.span_algebra.specs.declared.rows.UnitRows.{UnitRows}

-- the rows of all units as they are now, and as they were before the last turn
pub record Cached : Type 0 where
  pub rows : List UnitRows
  pub before : List UnitRows
