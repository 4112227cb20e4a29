use Rattle.command_words.proofs.Digits.{in_bits, out_of_bits}
use Rattle.command_words.proofs.numbers.value_of.Goals as goal

pub returns-in-Ok : goal.returns-in-Ok
returns-in-Ok c = in_bits c.args.text.now c.in-Ok.value c.requires c.in-Ok.ensures.value.0

pub returns-in-Err : goal.returns-in-Err
returns-in-Err c = out_of_bits c.args.text.now c.requires c.in-Err.ensures.value.0
