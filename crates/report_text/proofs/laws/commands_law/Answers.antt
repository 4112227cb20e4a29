use Rattle.report_text.proofs.Wholes.{history_goes_on, lines_go_on}
use Rattle.report_text.proofs.laws.commands_law.Goals as goal

pub returns : goal.returns
returns c = record { history = history_goes_on; lines = lines_go_on }
