use Rattle.std.proofs.Common.{IfOk, subst}
use Rattle.std.specs.Arc.{arc_value}
use Rattle.delay_revise.specs.Revising.{Revising, number_of, IsPublished}
use Rattle.delay_revise.proofs.reviser.Reviser.revise.Goals as goal

pub returns-else-is_err-clause-publication : goal.returns-else-is_err-clause-publication
returns-else-is_err-clause-publication g c =
    subst (λ (r : Revising). IfOk c.revise_from_first-result.result (λ publication.
    IsPublished r.program r.taken (number_of r) (arc_value publication))) c.begin_again.ensures
    c.revise_from_first-result.ensures.publication
