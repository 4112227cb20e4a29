-- Public contracts speak by this: instances as statements. Entities stand in place of variables,
-- and no X \= Y is left.
use Rattle.std.specs.Prelude.{List, map, filter_map, Option, Some, None}
use Rattle.rule_forms.specs.declared.form.Term.{Term}
use Rattle.rule_forms.specs.declared.form.Term.TheVariants as term
use Rattle.rule_forms.specs.declared.form.Atom.{Atom}
use Rattle.rule_forms.specs.declared.form.Fv.{Fv}
use Rattle.rule_forms.specs.declared.form.EventText.{EventText}
use Rattle.rule_forms.specs.declared.form.EventText.TheVariants as event
use Rattle.rule_forms.specs.declared.form.Body.{Body}
use Rattle.rule_forms.specs.declared.form.Body.TheVariants as body
use Rattle.rule_forms.specs.Forms.{Expression, Expressions, Value_of, Union_of, Intersect_of}
use Rattle.rule_forms.specs.Forms.{Complement_of, none, more, PlainForm, Initially, Initiated}
use Rattle.rule_forms.specs.Forms.{Terminated, Happens, HoldsFor}
use Rattle.ground_rules.specs.Assignments.{Instance, word_of}

abbrev pub stated_term : Instance → Term → Term
stated_term i (term.Entity word) = term.Entity word
stated_term i (term.Variable word) = term.Entity (word_of i word)

abbrev pub stated_atom : Instance → Atom → Atom
stated_atom i atom = record { name = atom.name; args = map (stated_term i) atom.args }

abbrev pub stated_fv : Instance → Fv → Fv
stated_fv i fv = record { atom = stated_atom i fv.atom; value = fv.value }

abbrev pub stated_event : Instance → EventText → EventText
stated_event i (event.Plain atom) = event.Plain (stated_atom i atom)
stated_event i (event.Start fv) = event.Start (stated_fv i fv)
stated_event i (event.End fv) = event.End (stated_fv i fv)

abbrev pub stated_condition : Instance → Body → Option Body
stated_condition i (body.Happens positive event) =
    Some (body.Happens positive (stated_event i event))
stated_condition i (body.Holds positive fv) = Some (body.Holds positive (stated_fv i fv))
stated_condition i (body.Unequal x y) = None

abbrev pub stated_conditions : Instance → List Body → List Body
stated_conditions i bodies = filter_map (stated_condition i) bodies

abbrev mutual
  pub stated_expression : Instance → Expression → Expression
  stated_expression i (Value_of fv) = Value_of (stated_fv i fv)
  stated_expression i (Union_of es) = Union_of (stated_expressions i es)
  stated_expression i (Intersect_of es) = Intersect_of (stated_expressions i es)
  stated_expression i (Complement_of e es) = Complement_of (stated_expression i e)
      (stated_expressions i es)

  pub stated_expressions : Instance → Expressions → Expressions
  stated_expressions i none = none
  stated_expressions i (more e es) = more (stated_expression i e) (stated_expressions i es)

-- (a statement that defines no fluent and no event has no variables)
abbrev pub stated_form : Instance → PlainForm → PlainForm
stated_form i (Initially fv) = Initially (stated_fv i fv)
stated_form i (Initiated fv bodies) = Initiated (stated_fv i fv) (stated_conditions i bodies)
stated_form i (Terminated fv bodies) = Terminated (stated_fv i fv) (stated_conditions i bodies)
stated_form i (Happens atom bodies) = Happens (stated_atom i atom) (stated_conditions i bodies)
stated_form i (HoldsFor fv e) = HoldsFor (stated_fv i fv) (stated_expression i e)
stated_form i form = form

-- What an instance says.
abbrev pub stated : Instance → PlainForm
stated i = stated_form i i.clause.form
