use Rattle.std.proofs.Common.{◌∙◌, sym}
use Rattle.system_core.proofs.Holdings.{holds_with_claim}
use Rattle.system_core.proofs.system.System.claim.Goals as goal

pub invariant_of-self-2 : goal.invariant_of-self-2
invariant_of-self-2 c =
    rw c.in_ok-unit.ensures.claimed (holds_with_claim _ _ _ _ _ _ c.self.invariant
    c.in_ok-unit.field-0 (sym c.is_open.ensures ∙ c.if-not-is_open.false))
