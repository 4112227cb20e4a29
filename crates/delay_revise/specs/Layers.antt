-- For private functions alone: the open layer, unit by unit.
use Rattle.std.specs.Prelude.{◌≡◌, ◌<◌, ℕ, true, List, length, slice_set, sum_by, Option, None}
use Rattle.std.specs.Prelude.{Some}
use Rattle.std.specs.List.{slice_index_or}
use Rattle.ground_types.specs.declared.entries.Entry.{Entry}
use Rattle.ground_types.specs.declared.program.Program.{Program}
use Rattle.layer_cache.specs.Rows.{Cached}
use Rattle.span_algebra.specs.declared.rows.UnitRows.{UnitRows}
use Rattle.delay_revise.specs.Revising.{Revising, open_units, trigger_points_of_unit}

-- the unit of this number in a layer
abbrev pub unit_at : List ℕ → ℕ → ℕ
unit_at units number = slice_index_or units number 0

-- the units are those of the open layer of a chunk that is applied, and there is one of this number
pub record MayWork (reviser : Revising) (units : List ℕ) (number : ℕ) : Type 0 where
  pub opened : reviser.has_chunk ≡ true
  pub applied : reviser.applied ≡ true
  pub units_are : units ≡ open_units reviser
  pub within : number < length units

-- the rows with those that were made of a unit; none are made where the empty ones stay
abbrev pub put_made : Cached → ℕ → Option UnitRows → Cached
put_made cached unit None = cached
put_made cached unit (Some rows) = record {
  rows = slice_set cached.rows unit rows;
  before = cached.before;
}

-- at how many points of the window of query k the triggers of the rules of some units occur
abbrev pub layer_triggers : Program → List Entry → ℕ → List ℕ → ℕ
layer_triggers program history k units = sum_by (trigger_points_of_unit program history k) units
