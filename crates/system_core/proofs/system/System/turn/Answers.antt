use Rattle.std.proofs.Common.{◌∙◌, refl, sym, arith}
use Rattle.system_core.proofs.Holdings.{works, low_from, kept_all, holds_working, turned_works}
use Rattle.system_core.proofs.system.System.turn.Goals as goal

pub turn-requires-clause-kept : goal.turn-requires-clause-kept
turn-requires-clause-kept c =
    kept_all _ _ _ _
    (works _ _ _ _ _ _ c.self.invariant (sym c.is_open.ensures ∙ c.if-not-is_open.false)
    (low_from c.self.inside.claims.program c.self.inside.claims.revision (sym c.has_layer.ensures ∙ c.if-not-has_layer.false))).is
    (sym c.is_finished.ensures ∙ c.if-not-is_finished.false)

pub invariant_of-self : goal.invariant_of-self
invariant_of-self c =
    let low = low_from c.self.inside.claims.program c.self.inside.claims.revision
    (sym c.has_layer.ensures ∙ c.if-not-has_layer.false) in
    let w = works _ _ _ _ _ _ c.self.invariant (sym c.is_open.ensures ∙ c.if-not-is_open.false)
    low in
    rw c.turn-2.ensures
    (holds_working _ _ _ _ _ _ c.self.invariant _ c.turn.new.self refl (omega (arith, low))
    (turned_works _ _ _ _ w.is c.turn.new.self c.turn.ensures) w)
