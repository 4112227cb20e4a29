use Rattle.query_ask.proofs.TrueAnswers.{read_is_true}
use Rattle.query_ask.proofs.laws.answers_are_true.Goals as goal

pub returns : goal.returns
returns c = λ parts right unit v t fits above within.
    read_is_true parts right unit v t above within fits
