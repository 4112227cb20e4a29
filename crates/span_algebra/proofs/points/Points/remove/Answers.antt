use Rattle.std.proofs.Common.{sym, ◌∙◌, ap, subst}
use Rattle.span_algebra.specs.Normal.{IsRising, has}
use Rattle.span_algebra.proofs.Inserting.{found_is}
use Rattle.span_algebra.proofs.Removing.{rising_remove, has_without, has_without_other}
use Rattle.span_algebra.proofs.points.Points.remove.Goals as goal

pub invariant_of-self : goal.invariant_of-self
invariant_of-self c = subst IsRising (sym c.remove.ensures.items) (rising_remove c.in-Ok.place 0
    c.self.inside.points.items c.self.invariant)

pub returns-in-Ok-clause-points : goal.returns-in-Ok-clause-points
returns-in-Ok-clause-points c = λ t.
    ap (λ l. has l t) c.remove.ensures.items
    ∙ has_without c.deref.result.now c.self.inside.points.items c.args.self.now c.args.at
    c.in-Ok.place _ c.deref.ensures.value c.self.view_is c.self.invariant c.in-Ok.is
    c.binary_search.ensures.position t

pub returns-in-Err-clause-removed : goal.returns-in-Err-clause-removed
returns-in-Err-clause-removed c =
    found_is c.deref.result.now c.self.inside.points.items c.args.self.now c.args.at _ _
    c.deref.ensures.value c.self.view_is c.self.invariant c.in-Err.is
    c.binary_search.ensures.position

pub returns-in-Err-clause-points : goal.returns-in-Err-clause-points
returns-in-Err-clause-points c = has_without_other c.args.self.now c.args.at
    (sym (returns-in-Err-clause-removed c))
