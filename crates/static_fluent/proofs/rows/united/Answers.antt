use Rattle.std.proofs.Common.{map, ap, ◌∙◌}
use Rattle.span_algebra.specs.Normal.{covers}
use Rattle.static_fluent.specs.Evaluated.{spans_in}
use Rattle.static_fluent.proofs.Members.{same_any}
use Rattle.static_fluent.proofs.rows.united.Goals as goal

pub returns : goal.returns
returns c = λ t. c.in_ok-out.ensures t
    ∙ same_any (λ l. covers l t) (λ l. l.now) spans_in _ _
    (ap (map (λ l. l.now)) c.as_slice.ensures.value ∙ c.in_ok-lists.ensures)
