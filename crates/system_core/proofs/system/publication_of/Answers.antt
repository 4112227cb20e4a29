use Rattle.std.proofs.Common.{◌∙◌, subst, ap}
use Rattle.std.specs.Arc.{arc_value}
use Rattle.delay_revise.specs.Revising.{Revising, closed, number_of, IsPublished}
use Rattle.system_core.proofs.system.publication_of.Goals as goal

pub returns-in_ok-publication-in-None-clause-next : goal.returns-in_ok-publication-in-None-clause-next
returns-in_ok-publication-in-None-clause-next c =
    rw c.in-None.is (
      subst (λ (r : Revising). IsPublished r.program r.taken (number_of r)
          (arc_value c.in_ok-publication-in-None.publication)) c.in_ok-apply-in-None.ensures.ok
          c.in_ok-publication-in-None.ensures.publication,
      c.in_ok-publication-in-None.ensures.closed ∙ ap closed c.in_ok-apply-in-None.ensures.ok,
    )
