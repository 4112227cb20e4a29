use Rattle.report_text.proofs.Legal.{made_is_legal}
use Rattle.report_text.proofs.laws.made_history_is_legal.Goals as goal

pub returns : goal.returns
returns c = made_is_legal
