-- The instances of a checked description by the units in their heads.
use Rattle.std.proofs.Common.{◌≡◌, ℕ, ◌<◌, ◌≤◌, ◌^◌, ◌&&◌, nat_lt, true, List, [], ◌∷◌, ◌++◌, map}
use Rattle.std.proofs.Common.{flat_map, get_or, length, slice_get, option_map, Some, None, refl}
use Rattle.std.proofs.Common.{subst, sym, ap, ap₂, ◌∙◌}
use Rattle.std.specs.List.{list_all}
use Rattle.std.proofs.lemmas.Bool.{and_parts, ltb-true}
use Rattle.std.proofs.lemmas.List.{length-map}
use Rattle.std.proofs.lemmas.Option.{slice_get-map, slice_get-get_or, get_or_from_slice_get}
use Rattle.rt_base.specs.declared.limit.Limit.{Limit}
use Rattle.rt_base.specs.declared.limit.Limit.TheVariants as limit
use Rattle.ground_types.specs.declared.program.Domain.{Domain}
use Rattle.ground_types.specs.declared.program.Name.{Name}
use Rattle.ground_types.specs.declared.program.Program.{Program}
use Rattle.rule_forms.specs.declared.syntax.Statement.{Statement}
use Rattle.rule_forms.specs.Forms.{plain, is_rule}
use Rattle.rule_forms.specs.Sound.{AllOf}
use Rattle.decl_known.specs.declared.checked.Checked.{Checked}
use Rattle.decl_known.specs.Checked.{plain_checked}
use Rattle.decl_known.specs.Sound.{IsSound, IsSoundRule}
use Rattle.ground_rules.specs.declared.units.Origin.{Origin}
use Rattle.ground_rules.specs.Assignments.{Clause, Instance, instances}
use Rattle.ground_rules.specs.Grounded.{clauses_of, clauses, instances_at, plain_unit}
use Rattle.ground_rules.specs.Grounded.{plain_program, grounded}
use Rattle.ground_rules.specs.Limits.{unit_count, assignment_count, rule_count, condition_count}
use Rattle.ground_rules.specs.Limits.{exceeded, first_exceeded, name_tests, clause_tests, row_tests}
use Rattle.ground_rules.specs.Origins.{clause_at, count_at, is_origin, instance_at, no_clause}
use Rattle.ground_rules.specs.Origins.{AreOrigins, AreFew}
use Rattle.ground_rules.proofs.ByOrigin.{mine_are_origins, mine_are_instances, passes_here}
use Rattle.ground_rules.proofs.RuleCounts.{length_from}
use Rattle.ground_rules.proofs.UnitNumbers.{units_are}
use Rattle.ground_rules.proofs.Tested.{both_within, first_within}

rules_pass : (domains : List Domain) (declared names : List Name) (rules : List Statement)
    → AllOf (IsSoundRule domains declared) rules
    → list_all (λ clause. is_rule clause.form) (clauses_of domains names (map plain rules)) ≡ true
rules_pass domains declared names [] all = refl
rules_pass domains declared names (rule ∷ rules) all =
    ap₂ ◌&&◌ all.0.0 (rules_pass domains declared names rules all.1)

-- ---- a checked description within its limits

module _ (checked : Checked) (within : exceeded (plain_checked checked) ≡ None) where
  abbrev all : List Clause
  all = clauses (plain_checked checked)

  abbrev rows : List (ℕ × ℕ × Limit)
  rows = row_tests checked.domains checked.names checked.plan.queries

  pub few_names : first_exceeded (name_tests checked.domains checked.names) ≡ None
  few_names = (both_within (name_tests checked.domains checked.names) (clause_tests all ++ rows)
      within).0

  behind_names : first_exceeded (clause_tests all ++ rows) ≡ None
  behind_names = (both_within (name_tests checked.domains checked.names) (clause_tests all ++ rows)
      within).1

  by_assignments : (assignment_count all ≤ 1048576)
      × (first_exceeded ((rule_count all, 262144, limit.Rules) ∷ (
        condition_count all,
        2097152,
        limit.Conditions,
      ) ∷ rows) ≡ None)
  by_assignments = first_within (assignment_count all) 1048576 limit.Assignments
      ((rule_count all, 262144, limit.Rules) ∷ (condition_count all, 2097152, limit.Conditions)
      ∷ rows) behind_names

  pub few_assignments : assignment_count all ≤ 1048576
  few_assignments = by_assignments.0

  pub few_rules : rule_count all ≤ 262144
  few_rules = (first_within (rule_count all) 262144 limit.Rules
      ((condition_count all, 2097152, limit.Conditions) ∷ rows) by_assignments.1).0

  pub all_are_rules : IsSound checked → list_all (λ clause. is_rule clause.form) all ≡ true
  all_are_rules sound = rules_pass checked.domains checked.names _ checked.rules sound.rules

-- the units of its program are as many as those that have instances listed
pub as_many_units : (checked : Checked) (of_name : List ℕ) (program : Program)
    → plain_program program ≡ grounded (plain_checked checked) of_name
    → length program.units ≡ unit_count checked.domains checked.names
as_many_units checked of_name program made =
    sym (length-map program.units plain_unit)
    ∙ ap length (units_are checked of_name program made)
    ∙ length_from checked.domains (flat_map instances (clauses (plain_checked checked)))
    checked.names 0 0 0

-- ---- the instances of a unit, each by the origin at its place

get_or_same : {A : Type 0} (xs : List A) (i : ℕ) (d : A) → i < length xs
    → get_or xs i d ≡ get_or xs i (get_or xs i d)
get_or_same xs i d inside = sym (get_or_from_slice_get xs i (get_or xs i d) (get_or xs i d)
    (slice_get-get_or xs i d inside))

-- an origin is that of a statement
pub has_clause : (clauses : List Clause) (origin : Origin) → is_origin clauses origin ≡ true
    → list_all (λ clause. is_rule clause.form) clauses ≡ true
    → is_rule (instance_at clauses origin).clause.form ≡ true
has_clause clauses origin is rules =
    let parts = and_parts (nat_lt origin.statement (length clauses) && nat_lt origin.assignment
    (count_at clauses origin.statement)) (nat_lt (count_at clauses origin.statement) (2 ^ 32)) is
    in
    let inside = ltb-true origin.statement (length clauses)
    (and_parts (nat_lt origin.statement (length clauses))
    (nat_lt origin.assignment (count_at clauses origin.statement)) parts.0).0 in
    passes_here (λ clause. is_rule clause.form) clauses origin.statement
    (clause_at clauses origin.statement) rules inside (get_or_same clauses origin.statement
    no_clause inside)

module _ (clauses : List Clause) (few : AreFew clauses) (lists : List (List Origin))
    (are : AreOrigins clauses lists) (unit : ℕ) (below : unit < length lists) where
  abbrev listed : List Instance
  listed = instances_at unit (flat_map instances clauses)

  abbrev mine : List Origin
  mine = get_or lists unit []

  pub as_many : length mine ≡ length listed
  as_many = sym (length-map mine (instance_at clauses))
      ∙ ap length (mine_are_instances clauses few lists are unit below)

  module _ (place : ℕ) (inside : place < length listed) (d : Origin) where
    within_mine : place < length mine
    within_mine = subst (λ n. place < n) (sym as_many) inside

    pub is_one : is_origin clauses (get_or mine place d) ≡ true
    is_one = passes_here (is_origin clauses) mine place (get_or mine place d)
        (mine_are_origins clauses few lists are unit below) within_mine
        (get_or_same mine place d within_mine)

    pub is_listed : slice_get listed place ≡ Some (instance_at clauses (get_or mine place d))
    is_listed =
        ap (λ is. slice_get is place) (sym (mine_are_instances clauses few lists are unit below))
        ∙ slice_get-map (instance_at clauses) mine place
        ∙ ap (option_map (instance_at clauses)) (slice_get-get_or mine place d within_mine)
