use Rattle.std.proofs.Common.{◌≡◌, ◌≤◌}
use Rattle.delay_revise.specs.Orders.{KeepsMore}
use Rattle.delay_revise.proofs.tests.work_down.Given as goal

abbrev pub invariant-loop-place : goal.invariant-loop-place
invariant-loop-place g l = record {
  kept : KeepsMore l.fn.reviser l.reviser l.units l.place l.fn.to;
  below : l.place ≤ l.fn.to;
  out : l.steps.out ≡ l.fn.steps.out;
}

abbrev pub decreases-loop-place : goal.decreases-loop-place
decreases-loop-place g l = l.place
