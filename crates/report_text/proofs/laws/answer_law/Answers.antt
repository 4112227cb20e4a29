use Rattle.report_text.proofs.Answering.{answers_are_whole}
use Rattle.report_text.proofs.laws.answer_law.Goals as goal

pub returns : goal.returns
returns c = answers_are_whole
