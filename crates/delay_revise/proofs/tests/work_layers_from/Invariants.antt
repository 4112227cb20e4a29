use Rattle.std.proofs.Common.{◌≡◌, length}
use Rattle.delay_revise.proofs.tests.work_layers_from.Given as goal

abbrev pub invariant-loop-layer : goal.invariant-loop-layer
invariant-loop-layer g l = record {
  same : l.reviser ≡ record l.fn.reviser { layer = l.layer-index; kept = l.reviser.kept };
  size : length l.reviser.kept ≡ length l.fn.reviser.kept;
  out : l.steps.out ≡ l.fn.steps.out;
}
