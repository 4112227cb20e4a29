use Rattle.report_text.proofs.Wholes.{ends_are_whole}
use Rattle.report_text.proofs.laws.end_law.Goals as goal

pub returns : goal.returns
returns c = ends_are_whole
