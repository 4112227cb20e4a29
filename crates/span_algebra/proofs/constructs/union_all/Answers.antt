use Rattle.std.proofs.Common.{map, ap, ◌∙◌}
use Rattle.span_algebra.proofs.Counting.{some_lent}
use Rattle.span_algebra.proofs.constructs.union_all.Goals as goal

pub returns : goal.returns
returns c = λ t. c.in_ok-out.ensures t ∙ some_lent (λ l. l.now) _ _ t
    (ap (map (λ l. l.now)) c.as_slice.ensures.value ∙ c.in_ok-lists.ensures)
