-- Public contracts speak by this: the program of a description, its units in order, each with the
-- instances that define it.
use Rattle.std.specs.Prelude.{ℕ, ◌==◌, List, [], map, flat_map, filter, filter_map, find, length}
use Rattle.std.specs.Prelude.{sum_by, fold, max, slice_index_or, Option, Some, None, if◌then◌else◌}
use Rattle.std.specs.List.{range_with_len, enumerate_from}
use Rattle.ground_types.specs.Members.{contains}
use Rattle.ground_types.specs.Sound.{is_input, arguments_of}
use Rattle.ground_types.specs.declared.plan.Plan.{Plan}
use Rattle.ground_types.specs.declared.program.Domain.{Domain}
use Rattle.ground_types.specs.declared.program.Name.{Name}
use Rattle.ground_types.specs.declared.program.NameKind.{NameKind}
use Rattle.ground_types.specs.declared.program.NameKind.TheVariants as name_kind
use Rattle.ground_types.specs.declared.program.Rule.{Rule}
use Rattle.ground_types.specs.declared.program.Unit.{Unit}
use Rattle.ground_types.specs.declared.program.UnitKind.{UnitKind}
use Rattle.ground_types.specs.declared.program.UnitKind.TheVariants as unit_kind
use Rattle.ground_types.specs.declared.program.Program.{Program}
use Rattle.rule_forms.specs.Forms.{PlainForm, PlainStatement, Initially, Initiated, Terminated}
use Rattle.rule_forms.specs.Forms.{Happens, HoldsFor}
use Rattle.decl_known.specs.Checked.{PlainChecked}
use Rattle.ground_names.specs.Numbers.{numbered}
use Rattle.ground_rules.specs.Assignments.{Clause, Instance, instances}
use Rattle.ground_rules.specs.Atoms.{GroundExpression, Union_is, all_of, plain_expr, head_unit}
use Rattle.ground_rules.specs.Atoms.{head_value, ground_rule, ground_expression}

abbrev pub clauses_of : List Domain → List Name → List PlainStatement → List Clause
clauses_of domains names rules = map (λ s. record {
  domains = domains;
  names = names;
  form = s.form;
}) rules

-- the instances with this unit as head
abbrev pub instances_at : ℕ → List Instance → List Instance
instances_at unit all = filter (λ i. head_unit i == unit) all

-- ---- units as plain data

pub data PlainKind : Type 0 where
  Simple_is : Option ℕ → List Rule → List Rule → PlainKind
  Static_is : List GroundExpression → PlainKind
  Derived_is : List Rule → PlainKind

abbrev pub plain_kind : UnitKind → PlainKind
plain_kind (unit_kind.Simple initially initiate terminate) = Simple_is initially initiate terminate
plain_kind (unit_kind.Static exprs) = Static_is (map plain_expr exprs)
plain_kind (unit_kind.Derived rules) = Derived_is rules

pub record PlainUnit : Type 0 where
  pub name : ℕ
  pub args : List ℕ
  pub kind : PlainKind

abbrev pub plain_unit : Unit → PlainUnit
plain_unit unit = record { name = unit.name; args = unit.args; kind = plain_kind unit.kind }

pub record PlainProgram : Type 0 where
  pub plan : Plan
  pub domains : List Domain
  pub names : List Name
  pub units : List PlainUnit
  pub layers : List (List ℕ)
  pub events : ℕ

abbrev pub plain_program : Program → PlainProgram
plain_program program = record {
  plan = program.plan;
  domains = program.domains;
  names = program.names;
  units = map plain_unit program.units;
  layers = program.layers;
  events = program.events;
}

-- ---- a unit from the instances that have it as head, in the order of the text and then of the
-- assignments

-- the value that an `initially` instance gives
abbrev pub opening_by : Instance → PlainForm → Option ℕ
opening_by i (Initially fv) = Some (head_value i)
opening_by i form = None

abbrev pub initiation_by : Instance → PlainForm → Option Rule
initiation_by i (Initiated fv bodies) = ground_rule i (head_value i) bodies
initiation_by i form = None

abbrev pub termination_by : Instance → PlainForm → Option Rule
termination_by i (Terminated fv bodies) = ground_rule i (head_value i) bodies
termination_by i form = None

abbrev pub occurrence_by : Instance → PlainForm → Option Rule
occurrence_by i (Happens atom bodies) = ground_rule i (head_value i) bodies
occurrence_by i form = None

abbrev pub expression_by : Instance → PlainForm → Option GroundExpression
expression_by i (HoldsFor fv e) = Some (ground_expression i e)
expression_by i form = None

-- the first declared value, of so many, for which an `initially` instance exists
abbrev pub opening_of : ℕ → List Instance → Option ℕ
opening_of values mine = find (contains (filter_map (λ i. opening_by i i.clause.form) mine))
    (range_with_len 0 values)

-- the union of the expressions of the instances for a value
abbrev pub union_for : List Instance → ℕ → GroundExpression
union_for mine v = Union_is (all_of (filter_map (λ i. expression_by i i.clause.form)
    (filter (λ i. head_value i == v) mine)))

-- (an input event is no unit)
abbrev pub kind_by : NameKind → ℕ → List Instance → PlainKind
kind_by name_kind.Simple values mine =
    Simple_is (opening_of values mine) (filter_map (λ i. initiation_by i i.clause.form) mine)
    (filter_map (λ i. termination_by i i.clause.form) mine)
kind_by name_kind.Static values mine = Static_is (map (union_for mine) (range_with_len 0 values))
kind_by kind values mine = Derived_is (filter_map (λ i. occurrence_by i i.clause.form) mine)

-- ---- the units of a description

-- the units of a name at a place, in the order of their arguments, numbered from its first on
abbrev pub units_of_name : List Domain → List Instance → ℕ → Name → List PlainUnit
units_of_name domains all place name =
    map (λ unit. record {
      name = place;
      args = unit.1;
      kind = kind_by name.kind (length name.values) (instances_at unit.0 all);
    })
    (enumerate_from name.first (arguments_of domains name))

abbrev pub units_by : List Domain → List Instance → ℕ × Name → List PlainUnit
units_by domains all name = if is_input name.1.kind then [] else units_of_name domains all name.0
    name.1

abbrev pub units_of : List Domain → List Name → List Instance → List PlainUnit
units_of domains names all = flat_map (units_by domains all) (enumerate_from 0 names)

-- ---- layers of units

-- the greatest layer of a name
abbrev pub greatest_layer : List ℕ → ℕ
greatest_layer of_name = fold max 0 of_name

-- the layer of a unit: that of its name
abbrev pub unit_layer : List ℕ → PlainUnit → ℕ
unit_layer of_name unit = slice_index_or of_name unit.name 0

-- the units of a layer, in order
abbrev pub units_in_layer : List ℕ → List PlainUnit → ℕ → List ℕ
units_in_layer of_name units layer =
    map (λ unit. unit.0) (filter (λ unit. unit_layer of_name unit.1 == layer)
    (enumerate_from 0 units))

-- layer 1, layer 2 and so on
abbrev pub layers_of : List ℕ → List PlainUnit → List (List ℕ)
layers_of of_name units = map (units_in_layer of_name units)
    (range_with_len 1 (greatest_layer of_name))

abbrev pub event_count : List Domain → List Name → ℕ
event_count domains names = sum_by (λ name. if is_input name.kind
    then length (arguments_of domains name) else 0) names

abbrev pub numbered_names : PlainChecked → List Name
numbered_names checked = numbered checked.domains 0 0 checked.names

abbrev pub clauses : PlainChecked → List Clause
clauses checked = clauses_of checked.domains (numbered_names checked) checked.rules

-- The program of a checked description, from the layers of its names.
abbrev pub grounded : PlainChecked → List ℕ → PlainProgram
grounded checked of_name =
    let units = units_of checked.domains (numbered_names checked)
    (flat_map instances (clauses checked)) in
    record {
      plan = checked.plan;
      domains = checked.domains;
      names = numbered_names checked;
      units = units;
      layers = layers_of of_name units;
      events = event_count checked.domains checked.names;
    }
