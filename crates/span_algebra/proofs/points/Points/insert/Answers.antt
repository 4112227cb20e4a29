use Rattle.std.proofs.Common.{◌≡◌, ◌||◌, eqb, true, not, sym, ◌∙◌, ap, subst}
use Rattle.span_algebra.specs.Normal.{IsRising, has}
use Rattle.span_algebra.proofs.Inserting.{found_is, rising_found, has_insert, has_there}
use Rattle.span_algebra.proofs.points.Points.insert.Goals as goal

pub invariant_of-self-in-Err : goal.invariant_of-self-in-Err
invariant_of-self-in-Err c =
    subst IsRising (sym c.in_ok-insert-in-Err.ensures.items)
    (rising_found c.deref.result.now c.self.inside.points.items c.args.at c.in-Err.place _
    c.deref.ensures.value c.self.invariant c.in-Err.is c.binary_search.ensures.position)

pub returns-in-Ok-clause-added : goal.returns-in-Ok-clause-added
returns-in-Ok-clause-added c =
    let there : true ≡ has c.args.self.now c.args.at =
    found_is c.deref.result.now c.self.inside.points.items c.args.self.now c.args.at _ _
    c.deref.ensures.value c.self.view_is c.self.invariant c.in-Ok.is
    c.binary_search.ensures.position in
    ap not there

pub returns-in-Ok-clause-points : goal.returns-in-Ok-clause-points
returns-in-Ok-clause-points c =
    has_there c.args.self.now c.args.at
    (sym (found_is c.deref.result.now c.self.inside.points.items c.args.self.now c.args.at _ _
    c.deref.ensures.value c.self.view_is c.self.invariant c.in-Ok.is
    c.binary_search.ensures.position))

pub returns-in_ok-insert-in-Err-clause-added : goal.returns-in_ok-insert-in-Err-clause-added
returns-in_ok-insert-in-Err-clause-added c =
    ap not (found_is c.deref.result.now c.self.inside.points.items c.args.self.now c.args.at _ _
    c.deref.ensures.value c.self.view_is c.self.invariant c.in-Err.is
    c.binary_search.ensures.position)

pub returns-in_ok-insert-in-Err-clause-points : goal.returns-in_ok-insert-in-Err-clause-points
returns-in_ok-insert-in-Err-clause-points c = λ t.
    ap (λ l. has l t) c.in_ok-insert-in-Err.ensures.items
    ∙ has_insert c.in-Err.place c.self.inside.points.items c.args.at t
    ∙ ap (λ l. has l t || eqb t c.args.at) c.self.view_is
