use Rattle.std.proofs.Common.{◌&&◌, not, map, ap, ap₂, ◌∙◌}
use Rattle.span_algebra.specs.Normal.{covers}
use Rattle.static_fluent.specs.Evaluated.{spans_in}
use Rattle.static_fluent.proofs.Members.{same_any}
use Rattle.static_fluent.proofs.rows.left_over.Goals as goal

pub returns : goal.returns
returns c = λ t. c.in_ok-out.ensures t
    ∙ ap₂ (λ a b. a && not b) (ap (λ l. covers l t) c.spans_in.ensures)
    (same_any (λ l. covers l t) (λ l. l.now) spans_in _ _
    (ap (map (λ l. l.now)) c.as_slice.ensures.value ∙ c.in_ok-lists.ensures))
