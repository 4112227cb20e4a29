use Rattle.span_algebra.specs.Normal.{IsNormal}
use Rattle.span_algebra.proofs.FirstBad.{no_first_bad, refused_at, refused_nowhere}
use Rattle.span_algebra.proofs.FirstBad.{normal_of_fronts}
use Rattle.span_algebra.proofs.spans.Spans.from_list.Goals as goal

pub returns-in-Some-clause-taken : goal.returns-in-Some-clause-taken
returns-in-Some-clause-taken c = λ normal. absurd (no_first_bad IsNormal _ c.in-Some.place
    normal_of_fronts
    normal c.in-Some.ensures.bad)

pub returns-in-Some-clause-not_normal : goal.returns-in-Some-clause-not_normal
returns-in-Some-clause-not_normal c = λ place. refused_at IsNormal _ c.in-Some.place place
    normal_of_fronts c.in-Some.ensures.bad

pub returns-in-Ok-clause-not_normal : goal.returns-in-Ok-clause-not_normal
returns-in-Ok-clause-not_normal c = λ place. refused_nowhere IsNormal _ place _ normal_of_fronts
    c.in_default.ensures.normal (λ is. cc)

pub returns-in-Err-clause-not_normal : goal.returns-in-Err-clause-not_normal
returns-in-Err-clause-not_normal c = λ place. refused_nowhere IsNormal _ place _ normal_of_fronts
    c.in_default.ensures.normal (λ is. cc)
