use Rattle.std.proofs.Common.{◌≡◌, true, sym, subst}
use Rattle.system_core.specs.Core.{is_worked}
use Rattle.system_core.specs.Claiming.{Claiming}
use Rattle.system_core.proofs.Claimed.{some_left, finished_on}
use Rattle.system_core.proofs.claims.Claims.finish.Goals as goal

pub overflow_sub-self : goal.overflow_sub-self
overflow_sub-self c =
    some_left _ _ _ _ c.self.invariant c.args.unit
    (subst (λ (v : Claiming). is_worked v.revision c.args.unit ≡ true) (sym c.self.view_is)
    c.requires.worked)

pub invariant_of-self-2 : goal.invariant_of-self-2
invariant_of-self-2 c =
    rw c.in_ok-push.ensures.items
    (finished_on _ _ _ _ c.self.invariant c.args.unit
    (subst (λ (v : Claiming). is_worked v.revision c.args.unit ≡ true) (sym c.self.view_is)
    c.requires.worked))
