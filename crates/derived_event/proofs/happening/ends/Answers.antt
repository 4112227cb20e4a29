use Rattle.std.proofs.Common.{◌∙◌}
use Rattle.derived_event.proofs.Borders.{ends_are}
use Rattle.derived_event.proofs.happening.ends.Goals as goal

pub returns : goal.returns
returns c = c.in_ok-found.ensures.found
    ∙ ends_are c.args.row.now c.args.w c.args.q c.borders_in.ensures.normal
