use Rattle.stream_read.specs.Scripts.{records_of}
use Rattle.stream_read.proofs.OfProgram.{are_of_program}
use Rattle.stream_read.proofs.reading.commands.Goals as goal

pub returns-clause-of_program : goal.returns-clause-of_program
returns-clause-of_program c =
    are_of_program c.args.program.now c.args.shape (records_of c.args.text.now) _
    c.requires.sound c.requires.shape c.gather_all.ensures.exact
