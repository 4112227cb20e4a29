use Rattle.std.proofs.Common.{ℕ, List, ◌++◌, flat_map, length, arith, ap, ◌∙◌, append_assoc, refl}
use Rattle.decl_known.specs.Checked.{plain_checked}
use Rattle.ground_rules.specs.Assignments.{instances}
use Rattle.ground_rules.specs.Grounded.{plain_program}
use Rattle.ground_rules.specs.Limits.{rule_count}
use Rattle.ground_rules.specs.Listed.{clauses_in}
use Rattle.ground_text.specs.GroundText.{counts_text, layers_text}
use Rattle.ground_text.proofs.GroundTexts.{count_of_units, program_is}
use Rattle.ground_text.proofs.printing.put_program.Goals as goal

pub put_listed-requires : goal.put_listed-requires
put_listed-requires c =
    omega (
      arith,
      count_of_units (plain_checked c.args.checked.now) c.requires.program.of_name
          c.args.program.now c.requires.program.is,
      c.in_ok-instances.ensures.units,
    )

pub returns : goal.returns
returns c =
    let program = c.args.program.now in
    let listed = clauses_in c.in_ok-instances.instances in
    λ of_name made.
    c.in_ok-put_listed.ensures
    ∙ append_assoc c.args.out.now.items (counts_text program.events (length program.units)
    (rule_count listed) (length program.layers))
    (layers_text (plain_program program) (flat_map instances listed))
    ∙ ap (λ (text : List ℕ). c.args.out.now.items ++ text)
    (program_is (plain_checked c.args.checked.now) of_name program made listed
    c.in_ok-instances.ensures.clauses (rule_count listed) refl)
