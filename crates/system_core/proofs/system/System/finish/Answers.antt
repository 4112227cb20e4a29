use Rattle.std.proofs.Common.{◌∙◌, refl, sym}
use Rattle.system_core.proofs.Claimed.{known}
use Rattle.system_core.proofs.Holdings.{works, low_of, holds_working, applied_works}
use Rattle.system_core.proofs.Holdings.{finished_works}
use Rattle.system_core.proofs.system.System.finish.Goals as goal

pub invariant_of-self : goal.invariant_of-self
invariant_of-self c =
    let among = c.is_worked.ensures.within c.if-not-is_worked.false in
    let w = works _ _ _ _ _ _ c.self.invariant (sym c.is_open.ensures ∙ c.if-not-is_open.false)
    (low_of c.self.inside.claims.program c.self.inside.claims.revision.layer c.args.unit
    among) in
    rw c.in_err-work.ensures.err
    (holds_working _ _ _ _ _ _ c.self.invariant _ c.work.new.reviser refl
    c.self.invariant.within (applied_works _ _ _ _ w.is c.work.new.reviser
    c.in_err-work.ensures.only_applied) w)

pub invariant_of-self-2 : goal.invariant_of-self-2
invariant_of-self-2 c =
    let among = c.is_worked.ensures.within c.if-not-is_worked.false in
    let w = works _ _ _ _ _ _ c.self.invariant (sym c.is_open.ensures ∙ c.if-not-is_open.false)
    (low_of c.self.inside.claims.program c.self.inside.claims.revision.layer c.args.unit
    among) in
    rw c.in_ok-work.ensures.claims
    (holds_working _ _ _ _ _ _ c.self.invariant _ c.work.new.reviser refl
    c.self.invariant.within (finished_works _ _ _ _ w.is c.work.new.reviser c.args.unit
    c.in_ok-work.ensures.reviser
    (known c.self.inside.claims.program c.self.inside.claims.revision.layer c.args.unit
    c.self.invariant.sound among)) w)
