use Rattle.std.proofs.Common.{◌∙◌}
use Rattle.point_rule.proofs.Inside.{inside_are}
use Rattle.point_rule.proofs.touch.inside.Goals as goal

pub returns : goal.returns
returns c =
    c.of.ensures ∙ c.in_ok-found.ensures.items ∙ c.within.ensures.list
    ∙ inside_are c.args.list.now c.args.w c.args.q (rw c.within.ensures.list at
    c.within.ensures.rising)
