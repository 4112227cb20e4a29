use Rattle.std.proofs.Common.{◌≡◌, [], replicate}
use Rattle.delay_revise.proofs.gather.no_parts.Given as goal

abbrev pub invariant-loop-turn : goal.invariant-loop-turn
invariant-loop-turn l = l.parts.items ≡ replicate l._turn []
