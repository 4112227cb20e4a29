-- Public contracts speak by this: what atoms, conditions and expressions are under an assignment.
use Rattle.std.specs.Prelude.{ℕ, true, List, [], ◌∷◌, map, filter_map, zip, Option, Some, None}
use Rattle.std.specs.Prelude.{if◌then◌else◌}
use Rattle.ground_types.specs.Sound.{is_input}
use Rattle.ground_types.specs.declared.program.Name.{Name}
use Rattle.ground_types.specs.declared.program.Trigger.{Trigger}
use Rattle.ground_types.specs.declared.program.Trigger.TheVariants as trigger
use Rattle.ground_types.specs.declared.program.What.TheVariants as what
use Rattle.ground_types.specs.declared.program.Cond.{Cond}
use Rattle.ground_types.specs.declared.program.Rule.{Rule}
use Rattle.ground_types.specs.declared.program.Expr.{Expr, Row, Union', Intersect', Complement'}
use Rattle.ground_types.specs.declared.program.Expr.{Row_of-Expr, end_of-Expr, more_of-Expr}
use Rattle.rule_forms.specs.declared.form.Term.{Term}
use Rattle.rule_forms.specs.declared.form.Term.TheVariants as term
use Rattle.rule_forms.specs.declared.form.Atom.{Atom}
use Rattle.rule_forms.specs.declared.form.Fv.{Fv}
use Rattle.rule_forms.specs.declared.form.EventText.{EventText}
use Rattle.rule_forms.specs.declared.form.EventText.TheVariants as event
use Rattle.rule_forms.specs.declared.form.Body.{Body}
use Rattle.rule_forms.specs.declared.form.Body.TheVariants as body
use Rattle.rule_forms.specs.Forms.{Expression, Expressions, Value_of, Union_of, Intersect_of}
use Rattle.rule_forms.specs.Forms.{Complement_of, none, more, PlainForm, Initially, Initiated}
use Rattle.rule_forms.specs.Forms.{Terminated, Happens, HoldsFor}
use Rattle.ground_types.specs.Words.{place_in, declaration, entities_of}
use Rattle.ground_names.specs.Numbers.{number_of}
use Rattle.ground_rules.specs.Assignments.{Instance, entity_of}

-- (in a checked description each name, value and entity is declared, so that no 0 stands for one
-- that is not)
abbrev pub or_zero : Option ℕ → ℕ
or_zero None = 0
or_zero (Some n) = n

-- the number of an argument's entity in the domain of its place
abbrev pub ground_term : Instance → Term → ℕ → ℕ
ground_term i (term.Entity word) d = or_zero (place_in (entities_of i.clause.domains d) word)
ground_term i (term.Variable word) d = entity_of i word

abbrev pub ground_args : Instance → Name → List Term → List ℕ
ground_args i name args = map (λ place. ground_term i place.0 place.1) (zip args name.args)

abbrev pub number_by : Instance → Atom → Option Name → ℕ
number_by i atom None = 0
number_by i atom (Some name) = or_zero (number_of i.clause.domains name
    (ground_args i name atom.args))

-- the number of the ground event or unit that an atom names
abbrev pub ground_atom : Instance → Atom → ℕ
ground_atom i atom = number_by i atom (declaration i.clause.names atom.name)

abbrev pub value_in : List ℕ → Option Name → ℕ
value_in word None = 0
value_in word (Some name) = or_zero (place_in name.values word)

-- the number of the value of a fluent-value
abbrev pub ground_value : Instance → Fv → ℕ
ground_value i fv = value_in fv.value (declaration i.clause.names fv.atom.name)

abbrev pub event_by : Option Name → ℕ → Trigger
event_by None n = trigger.Derived n
event_by (Some name) n = if is_input name.kind then trigger.Event n else trigger.Derived n

abbrev pub ground_event : Instance → EventText → Trigger
ground_event i (event.Plain atom) = event_by (declaration i.clause.names atom.name)
    (ground_atom i atom)
ground_event i (event.Start fv) = trigger.Start (ground_atom i fv.atom) (ground_value i fv)
ground_event i (event.End fv) = trigger.End (ground_atom i fv.atom) (ground_value i fv)

-- (X \= Y leaves no condition behind)
abbrev pub ground_condition : Instance → Body → Option Cond
ground_condition i (body.Happens positive event) =
    Some (record { positive = positive; what = what.Happens (ground_event i event) })
ground_condition i (body.Holds positive fv) =
    Some (record {
      positive = positive;
      what = what.Holds (ground_atom i fv.atom)
          (ground_value i fv);
    })
ground_condition i (body.Unequal x y) = None

-- ---- what an instance defines

-- the number of the unit that stands in the head (each statement of a checked description that is
-- kept has one)
abbrev pub unit_by : Instance → PlainForm → ℕ
unit_by i (Initially fv) = ground_atom i fv.atom
unit_by i (Initiated fv bodies) = ground_atom i fv.atom
unit_by i (Terminated fv bodies) = ground_atom i fv.atom
unit_by i (Happens atom bodies) = ground_atom i atom
unit_by i (HoldsFor fv e) = ground_atom i fv.atom
unit_by i form = 0

abbrev pub head_unit : Instance → ℕ
head_unit i = unit_by i i.clause.form

-- the number of the value that stands in the head, 0 for a derived event
abbrev pub value_by : Instance → PlainForm → ℕ
value_by i (Initially fv) = ground_value i fv
value_by i (Initiated fv bodies) = ground_value i fv
value_by i (Terminated fv bodies) = ground_value i fv
value_by i (HoldsFor fv e) = ground_value i fv
value_by i form = 0

abbrev pub head_value : Instance → ℕ
head_value i = value_by i i.clause.form

-- the rule for a value whose first condition is its trigger
abbrev pub ground_rule : Instance → ℕ → List Body → Option Rule
ground_rule i value (body.Happens true event ∷ others) =
    Some (record {
      value = value;
      trigger = ground_event i event;
      conds = filter_map (ground_condition i) others;
    })
ground_rule i value bodies = None

-- ---- expressions as plain data

mutual
  pub data GroundExpression : Type 0 where
    Row_is : ℕ → ℕ → GroundExpression
    Union_is : GroundExpressions → GroundExpression
    Intersect_is : GroundExpressions → GroundExpression
    Complement_is : GroundExpression → GroundExpressions → GroundExpression

  pub data GroundExpressions : Type 0 where
    no_more : GroundExpressions
    and_more : GroundExpression → GroundExpressions → GroundExpressions

abbrev mutual
  pub plain_expr : Expr → GroundExpression
  plain_expr (Row unit v) = Row_is unit v
  plain_expr (Union' shape members) = Union_is (plain_exprs members)
  plain_expr (Intersect' shape members) = Intersect_is (plain_exprs members)
  plain_expr (Complement' p first shape others) = Complement_is (plain_expr first)
      (plain_exprs others)

  pub plain_exprs : {m : _} → Row_of-Expr m → GroundExpressions
  plain_exprs end_of-Expr = no_more
  plain_exprs (more_of-Expr member rest) = and_more (plain_expr member) (plain_exprs rest)

abbrev mutual
  pub ground_expression : Instance → Expression → GroundExpression
  ground_expression i (Value_of fv) = Row_is (ground_atom i fv.atom) (ground_value i fv)
  ground_expression i (Union_of es) = Union_is (ground_expressions i es)
  ground_expression i (Intersect_of es) = Intersect_is (ground_expressions i es)
  ground_expression i (Complement_of e es) = Complement_is (ground_expression i e)
      (ground_expressions i es)

  pub ground_expressions : Instance → Expressions → GroundExpressions
  ground_expressions i none = no_more
  ground_expressions i (more e es) = and_more (ground_expression i e) (ground_expressions i es)

abbrev pub all_of : List GroundExpression → GroundExpressions
all_of [] = no_more
all_of (e ∷ es) = and_more e (all_of es)
