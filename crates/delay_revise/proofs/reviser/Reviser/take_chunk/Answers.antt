use Rattle.std.proofs.Common.{sym, subst, arith}
use Rattle.std.specs.Vec.{vec_capacity}
use Rattle.delay_revise.specs.Revising.{Revising, MayTake}
use Rattle.delay_revise.proofs.GoingOn.{taken_on}
use Rattle.delay_revise.proofs.reviser.Reviser.take_chunk.Goals as goal

pub invariant_of-self : goal.invariant_of-self
invariant_of-self c =
    taken_on _ _ c.args.chunk.now _ (vec_capacity c.extend_from_slice.new.self) c.self.invariant
    (subst (λ (r : Revising). MayTake r c.args.chunk.now) (sym c.self.view_is) c.requires.chunk)
    (omega (arith, c.self.invariant.roomy, c.extend_from_slice.ensures.capacity))
    c.in-Ok.ensures.items
