use Rattle.command_words.specs.Matching.{plain_given}
use Rattle.command_words.proofs.Asking.{unknown}
use Rattle.command_words.proofs.reading.asked.Goals as goal

pub returns-in_default : goal.returns-in_default
returns-in_default c = unknown c.args.command.now (plain_given c.args.given)
    c.in_default.not-recognise c.in_default.not-ground c.in_default.not-simulate
    c.in_default.not-live
