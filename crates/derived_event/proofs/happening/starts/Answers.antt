use Rattle.std.proofs.Common.{◌∙◌}
use Rattle.derived_event.proofs.Borders.{starts_are}
use Rattle.derived_event.proofs.happening.starts.Goals as goal

pub returns : goal.returns
returns c = c.in_ok-found.ensures.found
    ∙ starts_are c.args.row.now c.args.w c.args.q c.borders_in.ensures.normal
