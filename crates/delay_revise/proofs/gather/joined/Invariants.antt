use Rattle.std.proofs.Common.{take}
use Rattle.delay_revise.proofs.Joined.{AreJoined}
use Rattle.delay_revise.proofs.gather.joined.Given as goal

abbrev pub invariant-loop-part : goal.invariant-loop-part
invariant-loop-part l = AreJoined l.found.items (take l.part-index l.parts)
