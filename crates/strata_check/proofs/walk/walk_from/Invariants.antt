use Rattle.std.proofs.Common.{reverse, slice_get}
use Rattle.strata_check.specs.Walks.{HasWalked, IsNewMark, steps_left}
use Rattle.strata_check.proofs.walk.walk_from.Given as goal

abbrev pub invariant-walk : goal.invariant-walk
invariant-walk l =
    HasWalked l.graph.names.now l.graph.rows.now l.fn.marks.items l.marks.items
    (reverse l.trail.items) × (IsNewMark (slice_get l.marks.items l.start) → ⊥)

abbrev pub decreases-walk : goal.decreases-walk
decreases-walk l = steps_left l.graph.rows.now l.marks.items
