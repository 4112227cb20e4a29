use Rattle.std.proofs.Common.{ap₂, ◌∙◌}
use Rattle.rt_base.specs.Truths.{differs}
use Rattle.span_algebra.specs.Normal.{covers}
use Rattle.span_algebra.proofs.Counting.{one_is}
use Rattle.span_algebra.proofs.constructs.differ.Goals as goal

pub returns : goal.returns
returns c = λ t. c.in_ok-out.ensures t
    ∙ one_is (covers c.as_slice.result.now t) (covers c.as_slice-2.result.now t)
    ∙ ap₂ (λ l m. differs (covers l t) (covers m t)) c.as_slice.ensures.list
    c.as_slice-2.ensures.list
