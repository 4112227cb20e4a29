-- No contract of the library speaks by this: what tests say of single calls, whichever unit comes
-- first.
use Rattle.std.specs.Prelude.{◌≡◌, ◌<◌, ◌≤◌, ℕ, true, List, length}
use Rattle.ground_types.specs.Sound.{IsSound}
use Rattle.delay_revise.specs.Layers.{unit_at}
use Rattle.delay_revise.specs.Revising.{Revising, is_kept}

-- a sound program whose units may be kept: there is a place for each
pub record IsRoomy (reviser : Revising) : Type 0 where
  pub sound : IsSound reviser.program
  pub size : length reviser.kept ≡ length reviser.program.units

-- and an open chunk that is applied
pub record IsReady (reviser : Revising) : Type 0 where
  pub roomy : IsRoomy reviser
  pub opened : reviser.has_chunk ≡ true
  pub applied : reviser.applied ≡ true

-- Of some units those at the places from one on up to another are kept, beside what was kept
-- before. Nothing else is changed.
pub record KeepsMore (old new : Revising) (units : List ℕ) (from to : ℕ) : Type 0 where
  pub same : new ≡ record old { kept = new.kept }
  pub size : length new.kept ≡ length old.kept
  pub still : (unit : ℕ) → is_kept old unit ≡ true → is_kept new unit ≡ true
  pub done : (place : ℕ) → from ≤ place → place < to → is_kept new (unit_at units place) ≡ true
