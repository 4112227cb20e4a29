use Rattle.std.proofs.Common.{ℕ, List, take_all, arith, subst}
use Rattle.delay_revise.proofs.Joined.{AreJoined, joined_more, joined_length, joined_at}
use Rattle.delay_revise.proofs.gather.joined.Goals as goal

pub loop-part-preserved : goal.loop-part-preserved
loop-part-preserved c =
    joined_more c.loop-part.found.items c.push.new.self.items c.args.parts.now
    c.loop-part.part-index c.in_ok-points.field-0 c.part-item.result
    c.loop-part-test.true c.part-item.is c.loop-part.invariant c.in_ok-points.ensures.points
    c.in_ok-push.ensures.items

pub returns-clause-count : goal.returns-clause-count
returns-clause-count c =
    joined_length c.loop-part.found.items c.args.parts.now
    (subst (λ (parts : List (List (List ℕ))). AreJoined c.loop-part.found.items parts)
    (take_all c.loop-part.part-index c.args.parts.now (omega (arith, c.loop-part-test.false)))
    c.loop-part.invariant)

pub returns-clause-points : goal.returns-clause-points
returns-clause-points c = λ v t.
    joined_at c.loop-part.found.items c.args.parts.now v t
    (subst (λ (parts : List (List (List ℕ))). AreJoined c.loop-part.found.items parts)
    (take_all c.loop-part.part-index c.args.parts.now (omega (arith, c.loop-part-test.false)))
    c.loop-part.invariant)
