use Rattle.std.proofs.Common.{ℕ}
use Rattle.std.specs.BinaryHeap.{heap_items}
use Rattle.span_algebra.specs.Walk.{count_on}
use Rattle.span_algebra.proofs.Walking.{IsWalking, borders_left}
use Rattle.span_algebra.proofs.walk.walk.Given as goal

abbrev pub invariant-walk : goal.invariant-walk
invariant-walk l =
    (top : ℕ) × IsWalking l.test (λ side. count_on side (heap_items l.fn.cursors))
    (heap_items l.cursors) l.held l.out.items l.begun top

abbrev pub decreases-walk : goal.decreases-walk
decreases-walk l = borders_left (heap_items l.cursors)
