use Rattle.std.proofs.Common.{◌≡◌}
use Rattle.admit_core.proofs.tests.told.Given as goal

abbrev pub invariant-loop-call : goal.invariant-loop-call
invariant-loop-call l = l.state.events ≡ 2
