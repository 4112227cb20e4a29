use Rattle.std.proofs.Common.{ℕ, ◌+◌, length}
use Rattle.span_algebra.proofs.Merging.{IsMerging}
use Rattle.span_algebra.proofs.symmetric.symmetric_difference.Given as goal

abbrev pub invariant-merge : goal.invariant-merge
invariant-merge l = (top : ℕ) × IsMerging l.one l.two l.one_left l.two_left l.out.items top

abbrev pub decreases-merge : goal.decreases-merge
decreases-merge l = length l.one_left + length l.two_left
