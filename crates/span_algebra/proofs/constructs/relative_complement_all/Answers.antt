use Rattle.std.proofs.Common.{◌&&◌, not, map, ap, ◌∙◌}
use Rattle.span_algebra.specs.Normal.{covers}
use Rattle.span_algebra.proofs.Counting.{some_lent}
use Rattle.span_algebra.proofs.constructs.relative_complement_all.Goals as goal

pub returns : goal.returns
returns c = λ t. c.in_ok-out.ensures t
    ∙ ap (λ b. covers c.args.first.now t && not b) (some_lent (λ l. l.now) _ _ t
    (ap (map (λ l. l.now)) c.as_slice.ensures.value ∙ c.in_ok-others.ensures))
