-- A grounded program is within the limits: its units are counted by names, and each instance of a
-- rule stands at one unit.
use Rattle.std.proofs.Common.{◌≡◌, ℕ, ◌+◌, ◌≤◌, nat_lt, Bool, true, false, cond, ◌==◌, List, []}
use Rattle.std.proofs.Common.{◌∷◌, ◌++◌, length, length-append, map, flat_map, filter, filter_map}
use Rattle.std.proofs.Common.{sum_by, Some, None, refl, sym, ap, ap₂, subst, ◌∙◌, arith}
use Rattle.std.proofs.Common.{if◌then◌else◌}
use Rattle.std.specs.List.{cons_option, range_with_len, enumerate_from}
use Rattle.std.proofs.lemmas.Bool.Decides.{nat_tests}
use Rattle.std.proofs.lemmas.Option.{none-some}
use Rattle.std.proofs.lemmas.List.{length-map}
use Rattle.std.proofs.lemmas.List.FromFn.{length-enumerate_from}
use Rattle.std.proofs.lemmas.List.Sums.{sum_by-cons, sum_by-append, sum_by-le-sum_by}
use Rattle.rt_base.specs.declared.limit.Limit.{Limit}
use Rattle.rt_base.specs.declared.limit.Limit.TheVariants as limit
use Rattle.ground_types.specs.Sound.{member_count, instance_count, rule_count, is_input}
use Rattle.ground_types.specs.Sound.{arguments_of}
use Rattle.ground_types.specs.declared.program.Domain.{Domain}
use Rattle.ground_types.specs.declared.program.Expr.{Expr, Row, Union', Intersect', Complement'}
use Rattle.ground_types.specs.declared.program.Expr.{Row_of-Expr, end_of-Expr, more_of-Expr}
use Rattle.ground_types.specs.declared.program.Name.{Name}
use Rattle.ground_types.specs.declared.program.NameKind.{NameKind}
use Rattle.ground_types.specs.declared.program.NameKind.TheVariants as name_kind
use Rattle.ground_types.specs.declared.program.Unit.{Unit}
use Rattle.ground_types.specs.declared.program.UnitKind.{UnitKind}
use Rattle.ground_types.specs.declared.program.UnitKind.TheVariants as unit_kind
use Rattle.ground_types.specs.declared.program.Program.{Program}
use Rattle.rule_forms.specs.Forms.{PlainForm, Initiated, Terminated, Happens, HoldsFor}
use Rattle.decl_known.specs.declared.checked.Checked.{Checked}
use Rattle.decl_known.specs.Checked.{PlainChecked, plain_checked}
use Rattle.ground_names.specs.Numbers.{with_first, numbered}
use Rattle.ground_rules.specs.Assignments.{Clause, Instance, is_permitted, assignments, instances}
use Rattle.ground_rules.specs.Atoms.{GroundExpression, Row_is, Union_is, Intersect_is}
use Rattle.ground_rules.specs.Atoms.{Complement_is, GroundExpressions, no_more, and_more}
use Rattle.ground_rules.specs.Atoms.{plain_expr, plain_exprs, all_of, head_unit, head_value}
use Rattle.ground_rules.specs.Atoms.{ground_rule}
use Rattle.ground_rules.specs.Grounded.{PlainKind, Simple_is, Static_is, Derived_is, plain_kind}
use Rattle.ground_rules.specs.Grounded.{PlainUnit, plain_unit, PlainProgram, plain_program}
use Rattle.ground_rules.specs.Grounded.{instances_at, initiation_by, termination_by, occurrence_by}
use Rattle.ground_rules.specs.Grounded.{expression_by, union_for, kind_by, units_of_name, units_by}
use Rattle.ground_rules.specs.Grounded.{event_count, clauses, grounded}
use Rattle.ground_rules.specs.Limits.{unit_count, counts_as_rule, rules_in, assignment_count}
use Rattle.ground_rules.specs.Limits.{rule_count as rule_count_of, condition_count, first_exceeded}
use Rattle.ground_rules.specs.Limits.{row_tests, exceeded}
use Rattle.ground_rules.proofs.OneList.{sum_by-map, range_in_two, in_one_list, one_at_most}
use Rattle.ground_rules.proofs.OneList.{kept_weigh, both_weigh}
use Rattle.ground_rules.proofs.UnitNumbers.{units_are}

-- ---- rules of units as plain data

abbrev pub plain_members : GroundExpressions → ℕ
plain_members no_more = 0
plain_members (and_more e es) = 1 + plain_members es

abbrev pub plain_instances : GroundExpression → ℕ
plain_instances (Row_is unit v) = 1
plain_instances (Union_is es) = plain_members es
plain_instances (Intersect_is es) = 1
plain_instances (Complement_is e es) = 1

abbrev pub plain_count : PlainKind → ℕ
plain_count (Simple_is initially initiate terminate) = length initiate + length terminate
plain_count (Static_is exprs) = sum_by plain_instances exprs
plain_count (Derived_is rules) = length rules

members_by_plain : {m : _} (row : Row_of-Expr m) → member_count row
    ≡ plain_members (plain_exprs row)
members_by_plain end_of-Expr = refl
members_by_plain (more_of-Expr member rest) = ap (λ n. 1 + n) (members_by_plain rest)

instances_by_plain : (e : Expr) → instance_count e ≡ plain_instances (plain_expr e)
instances_by_plain (Row unit v) = refl
instances_by_plain (Union' shape members) = members_by_plain members
instances_by_plain (Intersect' shape members) = refl
instances_by_plain (Complement' p first shape others) = refl

all_by_plain : (exprs : List Expr) → sum_by instance_count exprs ≡ sum_by plain_instances
    (map plain_expr exprs)
all_by_plain [] = refl
all_by_plain (e ∷ exprs) =
    sum_by-cons instance_count e exprs ∙ ap₂ ◌+◌ (instances_by_plain e) (all_by_plain exprs)
    ∙ sym (sum_by-cons plain_instances (plain_expr e) (map plain_expr exprs))

count_by_plain : (kind : UnitKind) → rule_count kind ≡ plain_count (plain_kind kind)
count_by_plain (unit_kind.Simple initially initiate terminate) = refl
count_by_plain (unit_kind.Static exprs) = all_by_plain exprs
count_by_plain (unit_kind.Derived rules) = refl

abbrev pub rules_of : PlainUnit → ℕ
rules_of unit = plain_count unit.kind

pub rules_by_plain : (units : List Unit) → sum_by (λ unit. rule_count unit.kind) units
    ≡ sum_by rules_of (map plain_unit units)
rules_by_plain [] = refl
rules_by_plain (unit ∷ units) =
    sum_by-cons (λ (unit : Unit). rule_count unit.kind) unit units
    ∙ ap₂ ◌+◌ (count_by_plain unit.kind) (rules_by_plain units)
    ∙ sym (sum_by-cons rules_of (plain_unit unit) (map plain_unit units))

-- ---- rules of a unit from its instances

-- 1 for an instance of a rule or of a holdsFor statement
abbrev pub weight_of : PlainForm → ℕ
weight_of form = if counts_as_rule form then 1 else 0

abbrev pub weight : Instance → ℕ
weight i = weight_of i.clause.form

rules_each : (i : Instance) (form : PlainForm) → length (cons_option (initiation_by i form) []) +
    length (cons_option (termination_by i form) []) ≤ weight_of form
rules_each i (Initiated fv bodies) = omega
    (arith, one_at_most (ground_rule i (head_value i) bodies))
rules_each i (Terminated fv bodies) = omega
    (arith, one_at_most (ground_rule i (head_value i) bodies))
rules_each i form = omega arith

occurrences_each : (i : Instance) (form : PlainForm)
    → length (cons_option (occurrence_by i form) []) ≤ weight_of form
occurrences_each i (Happens atom bodies) = one_at_most (ground_rule i (head_value i) bodies)
occurrences_each i form = omega arith

expressions_each : (i : Instance) (form : PlainForm)
    → length (cons_option (expression_by i form) []) ≤ weight_of form
expressions_each i (HoldsFor fv e) = omega arith
expressions_each i form = omega arith

all_members : (es : List GroundExpression) → plain_members (all_of es) ≡ length es
all_members [] = refl
all_members (e ∷ es) = ap (λ n. 1 + n) (all_members es) ∙ omega arith

module _ (mine : List Instance) where
  at_value : (v : ℕ) → plain_instances (union_for mine v) ≤ sum_by weight
      (filter (λ i. head_value i == v) mine)
  at_value v =
      omega (
        arith,
        all_members (filter_map (λ i. expression_by i i.clause.form)
            (filter (λ i. head_value i == v) mine)),
        kept_weigh weight (λ i. expression_by i i.clause.form)
            (λ i. expressions_each i i.clause.form) (filter (λ i. head_value i == v) mine),
      )

  static_count : (values : ℕ) → sum_by plain_instances
      (map (union_for mine) (range_with_len 0 values)) ≤ sum_by weight mine
  static_count values =
      omega (
        arith,
        sum_by-map plain_instances (union_for mine) (range_with_len 0 values),
        sum_by-le-sum_by (λ v. plain_instances (union_for mine v))
            (λ v. sum_by weight (filter (λ i. head_value i == v) mine)) (range_with_len 0 values)
            at_value,
        in_one_list head_value weight mine values 0,
      )

  occurrence_count : length (filter_map (λ i. occurrence_by i i.clause.form) mine) ≤ sum_by weight
      mine
  occurrence_count = kept_weigh weight (λ i. occurrence_by i i.clause.form)
      (λ i. occurrences_each i i.clause.form) mine

  -- a unit has no more rules than its instances weigh
  pub kind_count : (kind : NameKind) (values : ℕ) → plain_count (kind_by kind values mine) ≤ sum_by
      weight mine
  kind_count name_kind.Input values = occurrence_count
  kind_count name_kind.Simple values =
      both_weigh weight (λ i. initiation_by i i.clause.form) (λ i. termination_by i i.clause.form)
      (λ i. rules_each i i.clause.form) mine
  kind_count name_kind.Static values = static_count values
  kind_count name_kind.Derived values = occurrence_count

-- ---- units and rules of all names

-- what the instances at a unit weigh
abbrev pub weight_at : List Instance → ℕ → ℕ
weight_at all unit = sum_by weight (instances_at unit all)

-- Each instance of a rule stands in the list of at most one unit, so that all lists together have
-- no more of them than there are.
pub each_at_one_unit : (all : List Instance) (units : ℕ)
    → sum_by (weight_at all) (range_with_len 0 units) ≤ sum_by weight all
each_at_one_unit all units = in_one_list head_unit weight all units 0

pub unit_count-cons : (domains : List Domain) (name : Name) (names : List Name)
    → unit_count domains (name ∷ names) ≡ (if is_input name.kind then 0
    else length (arguments_of domains name)) + unit_count domains names
unit_count-cons domains name names = sum_by-cons (λ name. if is_input name.kind then 0
    else length (arguments_of domains name)) name names

module _ (domains : List Domain) (all : List Instance) where
  abbrev pub units_from : ℕ → ℕ → ℕ → List Name → List PlainUnit
  units_from place event unit names = flat_map (units_by domains all)
      (enumerate_from place (numbered domains event unit names))

  -- ---- how many units

  length_of_name : (place : ℕ) (name : Name) → length (units_of_name domains all place name)
      ≡ length (arguments_of domains name)
  length_of_name place name =
      length-map (enumerate_from name.first (arguments_of domains name))
      (λ unit. record {
        name = place;
        args = unit.1;
        kind = kind_by name.kind (length name.values) (instances_at unit.0 all);
      })
      ∙ length-enumerate_from name.first (arguments_of domains name)

  length_at : (b : Bool) (place : ℕ) (name : Name) (rest : List PlainUnit) (more : ℕ)
      → length rest ≡ more
      → length ((if b then [] else units_of_name domains all place name) ++ rest)
      ≡ (if b then 0 else length (arguments_of domains name)) + more
  length_at true place name rest more h = omega arith
  length_at false place name rest more h =
      omega (
        arith,
        length-append (units_of_name domains all place name) rest,
        length_of_name place
            name,
      )

  pub length_from : (names : List Name) (place event unit : ℕ)
      → length (units_from place event unit names) ≡ unit_count domains names
  length_from [] place event unit = refl
  length_from (name ∷ names) place event unit =
      let count = length (arguments_of domains name) in
      let b = is_input name.kind in
      length_at b place (with_first (if b then event else unit) name) (units_from (place + 1) (if b
      then event + count else event) (if b then unit else unit + count) names)
      (unit_count domains names) (length_from names (place + 1) (if b then event + count
      else event) (if b then unit else unit + count))
      ∙ sym (unit_count-cons domains name names)

  -- ---- how many rules

  rules_from : (place : ℕ) (name : Name) (list : List (List ℕ)) (first : ℕ)
      → sum_by rules_of (map (λ unit. record {
        name = place;
        args = unit.1;
        kind = kind_by name.kind (length name.values) (instances_at unit.0 all);
      })
      (enumerate_from first list))
      ≤ sum_by (weight_at all) (range_with_len first (length list))
  rules_from place name [] first = omega arith
  rules_from place name (args ∷ list) first =
      omega (
        arith,
        sum_by-cons rules_of (record {
          name = place;
          args = args;
          kind = kind_by name.kind (length name.values) (instances_at first all);
        })
            (map (λ unit. record {
              name = place;
              args = unit.1;
              kind = kind_by name.kind (length name.values) (instances_at unit.0 all);
            })
            (enumerate_from (first + 1) list)),
        kind_count (instances_at first all) name.kind (length name.values),
        rules_from place name list (first + 1),
        sum_by-cons (weight_at all) first (range_with_len (first + 1) (length list)),
      )

  abbrev pub RulesFrom : List Name → Type 0
  RulesFrom names = (place event unit : ℕ) → sum_by rules_of (units_from place event unit names)
      ≤ sum_by (weight_at all) (range_with_len unit (unit_count domains names))

  rules_at : (b : Bool) (name : Name) (names : List Name) (place event unit : ℕ) → RulesFrom names
      → sum_by rules_of ((if b then [] else units_of_name domains all place
      (with_first (if b then event else unit) name))
      ++ units_from (place + 1) (if b then event + length (arguments_of domains name) else event)
      (if b then unit else unit + length (arguments_of domains name)) names)
      ≤ sum_by (weight_at all) (range_with_len unit
      ((if b then 0 else length (arguments_of domains name)) + unit_count domains names))
  rules_at true name names place event unit rest =
      let none : 0 + unit_count domains names ≡ unit_count domains names = omega arith in
      subst (λ n. sum_by rules_of (units_from (place + 1)
      (event + length (arguments_of domains name)) unit names) ≤ sum_by (weight_at all)
      (range_with_len unit n)) (sym none)
      (rest (place + 1) (event + length (arguments_of domains name)) unit)
  rules_at false name names place event unit rest =
      let count = length (arguments_of domains name) in
      omega (
        arith,
        sum_by-append rules_of (units_of_name domains all place (with_first unit name))
            (units_from (place + 1) event (unit + count) names),
        rules_from place name (arguments_of domains name) unit,
        rest (place + 1) event (unit + count),
        ap (sum_by (weight_at all)) (range_in_two count (unit_count domains names) unit),
        sum_by-append (weight_at all) (range_with_len unit count) (range_with_len (unit + count)
            (unit_count domains names)),
      )

  -- the units of names have no more rules than the instances of their numbers weigh
  pub rules_of_names : (names : List Name) → RulesFrom names
  rules_of_names [] = λ place event unit. omega arith
  rules_of_names (name ∷ names) = λ place event unit.
      subst (λ n. sum_by rules_of (units_from place event unit (name ∷ names)) ≤ sum_by
      (weight_at all) (range_with_len unit n)) (sym (unit_count-cons domains name names))
      (rules_at (is_input name.kind) name names place event unit (rules_of_names names))

-- ---- what all instances weigh

module _ (clause : Clause) where
  abbrev pub instance_of : List ℕ → Instance
  instance_of assignment = record { clause = clause; assignment = assignment }

  kept_or_not : (b c : Bool) (i : Instance) (rest : List Instance) → weight i ≡ cond c 1 0
      → sum_by weight rest ≡ cond c (length rest) 0
      → sum_by weight (cond b (i ∷ rest) rest) ≡ cond c (length (cond b (i ∷ rest) rest)) 0
  kept_or_not false c i rest w h = h
  kept_or_not true true i rest w h = omega (arith, sum_by-cons weight i rest)
  kept_or_not true false i rest w h = omega (arith, sum_by-cons weight i rest)

  weight_of_assignments : (list : List (List ℕ))
      → sum_by weight (filter is_permitted (map instance_of list))
      ≡ cond (counts_as_rule clause.form) (length (filter is_permitted (map instance_of list))) 0
  weight_of_assignments [] = by (counts_as_rule clause.form)
    where
      by : (c : Bool) → ◌≡◌ {A = ℕ} 0 (cond c 0 0)
      by true = refl
      by false = refl
  weight_of_assignments (assignment ∷ list) =
      kept_or_not (is_permitted (instance_of assignment)) (counts_as_rule clause.form)
      (instance_of assignment) (filter is_permitted (map instance_of list)) refl
      (weight_of_assignments list)

pub weight_of_clauses : (list : List Clause) → sum_by weight (flat_map instances list)
    ≡ rule_count_of list
weight_of_clauses [] = refl
weight_of_clauses (clause ∷ list) =
    sum_by-append weight (instances clause) (flat_map instances list)
    ∙ ap₂ ◌+◌ (weight_of_assignments clause (assignments clause)) (weight_of_clauses list)
    ∙ sym (sum_by-cons rules_in clause list)

-- ---- limits

module _ (count most : ℕ) (named : Limit) (tests : List (ℕ × ℕ × Limit))
    (none : first_exceeded ((count, most, named) ∷ tests) ≡ None) where
  not_below : (b : Bool) → nat_lt most count ≡ b → (if b then Some named else first_exceeded tests)
      ≡ None → (count ≤ most) × (first_exceeded tests ≡ None)
  not_below true e k = absurd (none-some named (sym k))
  not_below false e k = (grind (arith, nat_tests), k)

  within : count ≤ most
  within = (not_below (nat_lt most count) refl none).0

  others : first_exceeded tests ≡ None
  others = (not_below (nat_lt most count) refl none).1

-- the tests from one on
abbrev from_conditions : PlainChecked → List (ℕ × ℕ × Limit)
from_conditions checked = (condition_count (clauses checked), 2097152, limit.Conditions)
    ∷ row_tests checked.domains checked.names checked.plan.queries

abbrev from_rules : PlainChecked → List (ℕ × ℕ × Limit)
from_rules checked = (rule_count_of (clauses checked), 262144, limit.Rules) ∷ from_conditions
    checked

abbrev from_assignments : PlainChecked → List (ℕ × ℕ × Limit)
from_assignments checked = (assignment_count (clauses checked), 1048576, limit.Assignments)
    ∷ from_rules checked

abbrev from_events : PlainChecked → List (ℕ × ℕ × Limit)
from_events checked = (event_count checked.domains checked.names, 16777216, limit.Events)
    ∷ from_assignments checked

module _ (checked : PlainChecked) (none : exceeded checked ≡ None) where
  units_most : unit_count checked.domains checked.names ≤ 65536
  units_most = within (unit_count checked.domains checked.names) 65536 limit.Units
      (from_events checked) none

  behind_units : first_exceeded (from_events checked) ≡ None
  behind_units = others (unit_count checked.domains checked.names) 65536 limit.Units
      (from_events checked) none

  events_most : event_count checked.domains checked.names ≤ 16777216
  events_most = within (event_count checked.domains checked.names) 16777216 limit.Events
      (from_assignments checked) behind_units

  behind_events : first_exceeded (from_assignments checked) ≡ None
  behind_events = others (event_count checked.domains checked.names) 16777216 limit.Events
      (from_assignments checked) behind_units

  behind_assignments : first_exceeded (from_rules checked) ≡ None
  behind_assignments = others (assignment_count (clauses checked)) 1048576 limit.Assignments
      (from_rules checked) behind_events

  rules_most : rule_count_of (clauses checked) ≤ 262144
  rules_most = within (rule_count_of (clauses checked)) 262144 limit.Rules
      (from_conditions checked) behind_assignments

module _ (checked : Checked) (of_name : List ℕ) (program : Program)
    (none : exceeded (plain_checked checked) ≡ None)
    (made : plain_program program ≡ grounded (plain_checked checked) of_name) where
  pub units_within : length program.units ≤ 65536
  units_within =
      omega (
        arith,
        length-map program.units plain_unit,
        ap length (units_are checked of_name program made),
        length_from checked.domains (flat_map instances (clauses (plain_checked checked)))
            checked.names 0 0 0,
        units_most (plain_checked checked) none,
      )

  pub events_within : program.events ≤ 16777216
  events_within = omega (
    arith,
    ap (λ (p : PlainProgram). p.events) made,
    events_most (plain_checked checked) none,
  )

  pub rules_within : sum_by (λ unit. rule_count unit.kind) program.units ≤ 262144
  rules_within =
      let all = flat_map instances (clauses (plain_checked checked)) in
      omega (
        arith,
        rules_by_plain program.units,
        ap (sum_by rules_of) (units_are checked of_name program made),
        rules_of_names checked.domains all checked.names 0 0 0,
        each_at_one_unit all (unit_count checked.domains checked.names),
        weight_of_clauses (clauses (plain_checked checked)),
        rules_most (plain_checked checked) none,
      )
