use Rattle.std.proofs.Common.{length, ap, arith}
use Rattle.ground_rules.proofs.KeptWords.{names_are}
use Rattle.ground_rules.proofs.ListedInstances.{few_names, as_many_units}
use Rattle.ground_rules.proofs.NumberedNames.{distinct}
use Rattle.program_tests.proofs.words.lines_over.Goals as goal

pub new-requires : goal.new-requires
new-requires c =
    let checked = c.args.checked.now in
    rw (
      c.as_slice-2.ensures,
      c.as_slice-names.ensures,
      names_are checked c.args.list.now.of_name
          c.args.program.now c.requires.grounded.1,
    )
    (distinct checked c.requires.sound (few_names checked c.requires.grounded.0))

pub lines_of-requires : goal.lines_of-requires
lines_of-requires c =
    let units = as_many_units c.args.checked.now c.args.list.now.of_name c.args.program.now
    c.requires.grounded.1 in
    omega (
      arith,
      units,
      c.in_ok-listed.ensures.units,
      ap length c.as_slice.ensures,
      c.if-unit-as_slice.false,
    )
