use Rattle.std.proofs.Common.{sym, ◌∙◌, ap, subst}
use Rattle.span_algebra.specs.Normal.{IsRising, has}
use Rattle.span_algebra.proofs.Having.{has_found}
use Rattle.span_algebra.proofs.points.Points.has.Goals as goal

pub returns : goal.returns
returns c =
    let rising : IsRising c.deref.result.now = subst IsRising (sym c.deref.ensures.value)
    c.self.invariant in
    c.is_ok.ensures.value ∙ has_found c.deref.result.now c.args.at c.binary_search.result rising
    c.binary_search.ensures.position
    ∙ ap (λ l. has l c.args.at) (c.deref.ensures.value ∙ c.self.view_is)
