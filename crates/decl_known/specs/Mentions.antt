-- Public contracts speak by this: the atoms of a rule, each with what it has to name.
use Rattle.std.specs.Prelude.{ℕ, Bool, true, false, List, [], ◌∷◌, ◌++◌, flat_map, filter_map}
use Rattle.std.specs.Prelude.{Option, Some, None}
use Rattle.ground_types.specs.declared.program.NameKind.{NameKind}
use Rattle.ground_types.specs.declared.program.NameKind.TheVariants as name_kind
use Rattle.rule_forms.specs.declared.form.Term.{Term}
use Rattle.rule_forms.specs.declared.form.Term.TheVariants as term
use Rattle.rule_forms.specs.declared.form.Atom.{Atom}
use Rattle.rule_forms.specs.declared.form.Fv.{Fv}
use Rattle.rule_forms.specs.declared.form.EventText.{EventText}
use Rattle.rule_forms.specs.declared.form.EventText.TheVariants as event
use Rattle.rule_forms.specs.declared.form.Body.{Body}
use Rattle.rule_forms.specs.declared.form.Body.TheVariants as body
use Rattle.rule_forms.specs.Forms.{Expression, Expressions, Value_of, Union_of, Intersect_of}
use Rattle.rule_forms.specs.Forms.{atom_of, Complement_of, none, more, conditions_of, PlainForm}
use Rattle.rule_forms.specs.Forms.{Initially, Initiated, Terminated, Happens, HoldsFor}

-- what an atom has to name
pub data Role : Type 0 where
  SimpleFluent : Role
  StaticFluent : Role
  DerivedEvent : Role
  AnyEvent : Role
  AnyFluent : Role

-- an atom, and its value where it is that of a fluent-value
pub record Mention : Type 0 where
  pub role : Role
  pub atom : Atom
  pub value : Option (List ℕ)

abbrev pub fits : Role → NameKind → Bool
fits SimpleFluent name_kind.Simple = true
fits StaticFluent name_kind.Static = true
fits DerivedEvent name_kind.Derived = true
fits AnyEvent name_kind.Input = true
fits AnyEvent name_kind.Derived = true
fits AnyFluent name_kind.Simple = true
fits AnyFluent name_kind.Static = true
fits role kind = false

abbrev pub fluent_value : Role → Fv → Mention
fluent_value role fv = record { role = role; atom = fv.atom; value = Some fv.value }

abbrev pub event_atom : Role → Atom → Mention
event_atom role atom = record { role = role; atom = atom; value = None }

abbrev pub event_role : EventText → Role
event_role (event.Plain atom) = AnyEvent
event_role (event.Start fv) = AnyFluent
event_role (event.End fv) = AnyFluent

abbrev pub event_value : EventText → Option (List ℕ)
event_value (event.Plain atom) = None
event_value (event.Start fv) = Some fv.value
event_value (event.End fv) = Some fv.value

abbrev pub event_mention : EventText → Mention
event_mention e = record { role = event_role e; atom = atom_of e; value = event_value e }

abbrev pub body_mentions : Body → List Mention
body_mentions (body.Happens positive event) = event_mention event ∷ []
body_mentions (body.Holds positive fv) = fluent_value AnyFluent fv ∷ []
body_mentions (body.Unequal x y) = []

abbrev mutual
  pub leaves : Expression → List Mention
  leaves (Value_of fv) = fluent_value AnyFluent fv ∷ []
  leaves (Union_of es) = leaves_of_all es
  leaves (Intersect_of es) = leaves_of_all es
  leaves (Complement_of e es) = leaves e ++ leaves_of_all es

  pub leaves_of_all : Expressions → List Mention
  leaves_of_all none = []
  leaves_of_all (more e es) = leaves e ++ leaves_of_all es

-- the head of a rule
abbrev pub head_of : PlainForm → List Mention
head_of (Initially fv) = fluent_value SimpleFluent fv ∷ []
head_of (Initiated fv bodies) = fluent_value SimpleFluent fv ∷ []
head_of (Terminated fv bodies) = fluent_value SimpleFluent fv ∷ []
head_of (Happens atom bodies) = event_atom DerivedEvent atom ∷ []
head_of (HoldsFor fv e) = fluent_value StaticFluent fv ∷ []
head_of form = []

abbrev pub leaves_of : PlainForm → List Mention
leaves_of (HoldsFor fv e) = leaves e
leaves_of form = []

-- all atoms of a rule, in the order of the text
abbrev pub mentions : PlainForm → List Mention
mentions form = head_of form ++ (flat_map body_mentions (conditions_of form) ++ leaves_of form)

abbrev pub variable_in : Term → Option (List ℕ)
variable_in (term.Entity w) = None
variable_in (term.Variable w) = Some w

-- the variables of some atoms
abbrev pub variables : List Mention → List (List ℕ)
variables ms = flat_map (λ m. filter_map variable_in m.atom.args) ms
