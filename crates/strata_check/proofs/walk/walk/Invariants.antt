use Rattle.std.proofs.Common.{ℕ, ◌<◌, [], slice_get}
use Rattle.strata_check.specs.Walks.{IsWalking, IsNewMark}
use Rattle.strata_check.proofs.walk.walk.Given as goal

abbrev pub invariant-loop-start : goal.invariant-loop-start
invariant-loop-start l =
    IsWalking l.graph.names.now l.graph.rows.now l.marks.items [] × ((k : ℕ) → k < l.start
    → IsNewMark (slice_get l.marks.items k) → ⊥)
