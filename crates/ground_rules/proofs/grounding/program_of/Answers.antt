use Rattle.std.proofs.Common.{length, flat_map, ap, ap₂, sym, ◌∙◌, arith}
use Rattle.decl_known.specs.Checked.{plain_checked}
use Rattle.ground_names.specs.Numbers.{numbered}
use Rattle.ground_rules.specs.Assignments.{instances}
use Rattle.ground_rules.specs.Grounded.{clauses, units_of}
use Rattle.ground_rules.specs.Limits.{first_exceeded, name_tests}
use Rattle.ground_rules.proofs.NumberedNames.{length_units}
use Rattle.ground_rules.proofs.grounding.program_of.Goals as goal

pub domains_and_layers-requires : goal.domains_and_layers-requires
domains_and_layers-requires c =
    let checked = c.args.checked.now in
    let few = length_units checked c.requires (ap₂ (λ d n. first_exceeded (name_tests d n))
    (sym c.as_slice-domains.ensures) (sym c.as_slice-declared.ensures)
    ∙ c.in_ok-test_names.ensures) c.in_ok-units.units.items
    (c.in_ok-units.ensures.units ∙ ap (λ names. units_of checked.domains names
    (flat_map instances (clauses (plain_checked checked)))) (c.as_slice.ensures
    ∙ c.in_ok-names.ensures ∙ ap₂ (λ d n. numbered d 0 0 n) c.as_slice-domains.ensures
    c.as_slice-declared.ensures)) in
    let same = ap length c.as_slice-2.ensures.value in
    omega (arith, few, same)
