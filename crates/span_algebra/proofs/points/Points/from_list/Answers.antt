use Rattle.span_algebra.specs.Normal.{IsRising}
use Rattle.span_algebra.proofs.FirstBad.{no_first_bad, refused_at, refused_nowhere}
use Rattle.span_algebra.proofs.FirstBad.{rising_of_fronts}
use Rattle.span_algebra.proofs.points.Points.from_list.Goals as goal

pub returns-in-Some-clause-taken : goal.returns-in-Some-clause-taken
returns-in-Some-clause-taken c = λ rising. absurd (no_first_bad IsRising _ c.in-Some.place
    rising_of_fronts
    rising c.in-Some.ensures.bad)

pub returns-in-Some-clause-not_normal : goal.returns-in-Some-clause-not_normal
returns-in-Some-clause-not_normal c = λ place. refused_at IsRising _ c.in-Some.place place
    rising_of_fronts c.in-Some.ensures.bad

pub returns-in-Ok-clause-not_normal : goal.returns-in-Ok-clause-not_normal
returns-in-Ok-clause-not_normal c = λ place. refused_nowhere IsRising _ place _ rising_of_fronts
    c.in_default.ensures.rising (λ is. cc)

pub returns-in-Err-clause-not_normal : goal.returns-in-Err-clause-not_normal
returns-in-Err-clause-not_normal c = λ place. refused_nowhere IsRising _ place _ rising_of_fronts
    c.in_default.ensures.rising (λ is. cc)
