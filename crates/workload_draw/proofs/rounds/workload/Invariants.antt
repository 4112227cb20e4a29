use Rattle.std.proofs.Common.{◌≡◌}
use Rattle.workload_draw.specs.Workload.{drawing}
use Rattle.workload_draw.proofs.rounds.workload.Given as goal

abbrev pub invariant-loop-i : goal.invariant-loop-i
invariant-loop-i l = l.made ≡ drawing l.program l.seed l.size l.i
