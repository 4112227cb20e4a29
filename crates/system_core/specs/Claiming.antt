-- For private functions alone: what claims hold beside the revision that they stand for.
use Rattle.std.specs.Prelude.{◌≡◌, ◌≤◌, ℕ, Bool, true, false, not, List, length, take}
use Rattle.std.specs.Prelude.{◌++◌, ◌∷◌, [], Option, None, Some, count_by, slice_get}
use Rattle.std.specs.List.{slice_index_or}
use Rattle.std.specs.List.Sorted.{IsPermutation, IsNonDecreasing, IsStrictlyIncreasing}
use Rattle.ground_types.specs.Members.{contains}
use Rattle.ground_types.specs.Sound.{IsSound}
use Rattle.ground_types.specs.declared.program.Program.{Program}
use Rattle.system_core.specs.Core.{Revision, units_of, layer_units, is_worked}

-- what claims stand for: their program, and the revision
pub record Claiming : Type 0 where
  pub program : Program
  pub revision : Revision

-- a unit that is there is claimed
abbrev pub with_claim : Claiming → Option ℕ → Claiming
with_claim claiming None = claiming
with_claim claiming (Some unit) = record claiming {
  revision = record claiming.revision { claimed = claiming.revision.claimed ++ unit ∷ [] };
}

-- the same units, from the lowest on
pub record IsInOrder (units ordered : List ℕ) : Type 0 where
  pub same : IsPermutation units ordered
  pub falls_never : IsNonDecreasing ordered
  pub rises : IsStrictlyIncreasing ordered

-- such lists of each layer
abbrev pub AreInOrder : List (List ℕ) → List (List ℕ) → Type 0
AreInOrder layers ordered = (layer : ℕ) → IsInOrder (units_of (slice_get layers layer))
    (units_of (slice_get ordered layer))

abbrev pub is_left : Revision → ℕ → Bool
is_left revision unit = not (contains revision.finished unit)

-- Beside them stand the units of each layer in order, for each unit whether it is worked, and how
-- many units of the open layer are not finished.
pub record IsClaiming (claiming : Claiming) (ordered : List (List ℕ)) (worked : List Bool) (left : ℕ)
    : Type 0 where
  pub sound : IsSound claiming.program
  pub within : claiming.revision.layer ≤ length claiming.program.layers
  pub in_order : AreInOrder claiming.program.layers ordered
  pub places : length worked ≡ length claiming.program.units
  pub lowest : claiming.revision.claimed ≡ take (length claiming.revision.claimed)
      (units_of (slice_get ordered claiming.revision.layer))
  pub worked_are : (unit : ℕ) → slice_index_or worked unit false ≡ is_worked claiming.revision unit
  pub only_claimed : (unit : ℕ) → contains claiming.revision.finished unit ≡ true
      → contains claiming.revision.claimed unit ≡ true
  pub left_are : left ≡ count_by (is_left claiming.revision)
      (layer_units claiming.program claiming.revision.layer)
