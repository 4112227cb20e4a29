-- For private functions alone: what an `AdmitState` holds beside its log.
use Rattle.std.specs.Prelude.{◌≡◌, ◌≤◌, ℕ, ◌*◌, List, length}
use Rattle.admit_core.specs.declared.front.Front.{Front}
use Rattle.admit_core.specs.Log.{Log, IsKept, AreCounts}
use Rattle.admit_core.specs.Index.{IsIndex}

-- a log with its counts, its index of two slots for each entry, and the room for its entries
pub record IsHeld (log : Log) (front : Front) (slots : List ℕ) (room : ℕ) : Type 0 where
  pub kept : IsKept log
  pub counts : AreCounts front log.history
  pub feeders : length front.fed ≡ 8
  pub index : IsIndex (length slots) slots log.history
  pub slots_twice : length slots ≡ 2 * log.cap
  pub roomy : log.cap ≤ room
