use Rattle.std.proofs.Common.{◌≡◌, ◌≤◌, ap, ap₂, sym, ◌∙◌, map, length, subst, arith}
use Rattle.std.specs.List.{list_all}
use Rattle.rule_forms.specs.Forms.{plain, is_rule}
use Rattle.decl_known.specs.Checked.{plain_checked}
use Rattle.ground_rules.specs.Clauses.{clause_of}
use Rattle.ground_names.specs.Counted.{capped}
use Rattle.ground_rules.specs.Grounded.{clauses_of, clauses, numbered_names}
use Rattle.ground_rules.specs.Limits.{unit_count, rule_count, assignment_count}
use Rattle.ground_rules.specs.Origins.{AreOrigins, origin_unit, origins_of, gathered}
use Rattle.ground_rules.proofs.ByOrigin.{are_few, are_origins}
use Rattle.ground_names.proofs.Caps.{capped_small}
use Rattle.ground_rules.proofs.NumberedNames.{declarations, units_few}
use Rattle.ground_rules.proofs.ListedInstances.{few_names, few_assignments, few_rules}
use Rattle.ground_rules.proofs.ListedInstances.{all_are_rules}
use Rattle.ground_rules.proofs.instances.Instances.new.Goals.{In_ok-rules}
use Rattle.ground_rules.proofs.instances.Instances.new.Goals as goal

pub clauses_of-requires : goal.clauses_of-requires
clauses_of-requires c =
    rw (c.requires.domains, c.requires.names) (declarations c.args.checked.now c.requires.checked
    (few_names c.args.checked.now c.requires.limits))

-- the statements with their variables are those of the description
these : (c : In_ok-rules) → map clause_of c.in_ok-clauses.clauses.items
    ≡ clauses (plain_checked c.args.checked.now)
these c =
    let checked = c.args.checked.now in
    c.in_ok-clauses.ensures ∙ ap₂ (λ d n. clauses_of d n (map plain c.as_slice.result.now))
    c.requires.domains c.requires.names
    ∙ ap (λ rules. clauses_of checked.domains (numbered_names (plain_checked checked))
    (map plain rules)) c.as_slice.ensures

-- there is a list of origins for each unit
lists : (c : In_ok-rules)
    → (length c.in_ok-origins.origins ≡ c.unit_count-units.result)
    × AreOrigins (map clause_of c.in_ok-clauses.clauses.items) c.in_ok-origins.origins
lists c =
    are_origins (map clause_of c.in_ok-clauses.clauses.items) c.unit_count-units.result
    c.in_ok-origins.origins
    (c.in_ok-origins.ensures ∙ ap (λ cs. gathered (origin_unit (map clause_of cs))
    c.unit_count-units.result (origins_of (map clause_of cs))) c.as_slice-4.ensures.value)

pub invariant_of-result : goal.invariant_of-result
invariant_of-result c =
    let checked = c.args.checked.now in
    let made = (goal.at.invariant_of-result c).In_ok-rules in
    let found = map clause_of c.in_ok-clauses.clauses.items in
    let few = few_assignments checked c.requires.limits in
    let rules = few_rules checked c.requires.limits in
    record {
      are_rules = ap (list_all (λ clause. is_rule clause.form)) (these made)
          ∙ all_are_rules checked c.requires.limits c.requires.checked;
      are_few = are_few found (subst (λ cs. assignment_count cs ≤ 1048576) (sym (these made)) few);
      are_origins = (lists made).1;
      rules_are =
          c.in_ok-rules.ensures ∙ ap (λ cs. capped (rule_count (map clause_of cs)))
          c.as_slice-5.ensures.value
          ∙ capped_small (rule_count found) (omega (arith, ap rule_count (these made), rules));
    }

pub returns : goal.returns
returns c =
    let checked = c.args.checked.now in
    let made = (goal.at.returns c).In_ok-rules in
    let few = units_few checked c.requires.checked (few_names checked c.requires.limits) in
    record {
      clauses = these made;
      units =
          (lists made).0
          ∙ c.unit_count-units.ensures ∙ ap₂ (λ d n. capped (unit_count d n)) c.as_slice-2.ensures
          c.as_slice-3.ensures
          ∙ capped_small (unit_count checked.domains checked.names) (omega (arith, few));
    }
