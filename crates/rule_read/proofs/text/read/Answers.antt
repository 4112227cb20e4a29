use Rattle.std.proofs.Common.{◌≤◌, length, arith}
use Rattle.rule_read.specs.Whole.{longest}
use Rattle.rule_read.proofs.Spelled.{stated_sound}
use Rattle.rule_read.proofs.text.read.Goals as goal

pub returns-clause-sound : goal.returns-clause-sound
returns-clause-sound c =
    let short : length c.args.text.now ≤ longest = omega (arith, c.if-text-gt1048576.false) in
    stated_sound c.args.text.now c.in_ok-statements_of.field-0
    (record { statements = c.of-statements.result }) short c.in_ok-statements_of.ensures
    c.of-statements.ensures
