use Rattle.delay_revise.proofs.LayerWork.{AreWorked}
use Rattle.delay_revise.proofs.reviser.Reviser.work_layers.Given as goal

abbrev pub invariant-loop-layer : goal.invariant-loop-layer
invariant-loop-layer g l = AreWorked l.fn.self l.fn.steps l._layer l.self l.steps
