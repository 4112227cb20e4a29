-- Public contracts speak by this: what statements say, as plain data.
use Rattle.std.specs.Prelude.{ℕ, Bool, true, false, List, [], ◌∷◌}
use Rattle.rule_forms.specs.declared.form.Decl.{Decl}
use Rattle.rule_forms.specs.declared.form.Atom.{Atom}
use Rattle.rule_forms.specs.declared.form.Fv.{Fv}
use Rattle.rule_forms.specs.declared.form.EventText.{EventText}
use Rattle.rule_forms.specs.declared.form.EventText.TheVariants as event
use Rattle.rule_forms.specs.declared.form.Body.{Body}
use Rattle.rule_forms.specs.declared.form.Form.{Form}
use Rattle.rule_forms.specs.declared.form.Form.TheVariants as form
use Rattle.rule_forms.specs.declared.form.Tree.{Tree, Leaf, Union', Intersect', Complement'}
use Rattle.rule_forms.specs.declared.form.Tree.{Row_of-Tree, end_of-Tree, more_of-Tree}
use Rattle.rule_forms.specs.declared.syntax.Statement.{Statement}

-- ---- expressions, forms and statements as plain data

mutual
  pub data Expression : Type 0 where
    Value_of : Fv → Expression
    Union_of : Expressions → Expression
    Intersect_of : Expressions → Expression
    Complement_of : Expression → Expressions → Expression

  pub data Expressions : Type 0 where
    none : Expressions
    more : Expression → Expressions → Expressions

abbrev mutual
  pub plain_tree : Tree → Expression
  plain_tree (Leaf fv) = Value_of fv
  plain_tree (Union' shape members) = Union_of (plain_row members)
  plain_tree (Intersect' shape members) = Intersect_of (plain_row members)
  plain_tree (Complement' p first shape others) = Complement_of (plain_tree first)
      (plain_row others)

  pub plain_row : {m : _} → Row_of-Tree m → Expressions
  plain_row end_of-Tree = none
  plain_row (more_of-Tree member rest) = more (plain_tree member) (plain_row rest)

pub data PlainForm : Type 0 where
  Window : ℕ → PlainForm
  Step : ℕ → PlainForm
  From : ℕ → PlainForm
  Queries : ℕ → PlainForm
  Domain : List ℕ → List (List ℕ) → PlainForm
  Input : Decl → PlainForm
  Simple : Decl → List (List ℕ) → PlainForm
  Static : Decl → List (List ℕ) → PlainForm
  Derived : Decl → PlainForm
  Initially : Fv → PlainForm
  Initiated : Fv → List Body → PlainForm
  Terminated : Fv → List Body → PlainForm
  Happens : Atom → List Body → PlainForm
  HoldsFor : Fv → Expression → PlainForm

abbrev pub plain_form : Form → PlainForm
plain_form (form.Window n) = Window n
plain_form (form.Step n) = Step n
plain_form (form.From n) = From n
plain_form (form.Queries n) = Queries n
plain_form (form.Domain name entities) = Domain name entities
plain_form (form.Input decl) = Input decl
plain_form (form.Simple decl values) = Simple decl values
plain_form (form.Static decl values) = Static decl values
plain_form (form.Derived decl) = Derived decl
plain_form (form.Initially fv) = Initially fv
plain_form (form.Initiated fv bodies) = Initiated fv bodies
plain_form (form.Terminated fv bodies) = Terminated fv bodies
plain_form (form.Happens atom bodies) = Happens atom bodies
plain_form (form.HoldsFor fv tree) = HoldsFor fv (plain_tree tree)

pub record PlainStatement : Type 0 where
  pub line : ℕ
  pub form : PlainForm

abbrev pub plain : Statement → PlainStatement
plain statement = record { line = statement.line; form = plain_form statement.form }

-- expressions one after the other
abbrev pub expressions : List Expression → Expressions
expressions [] = none
expressions (e ∷ es) = more e (expressions es)

-- ---- parts of statements

-- the statement defines a fluent or a derived event
abbrev pub is_rule : PlainForm → Bool
is_rule (Initially fv) = true
is_rule (Initiated fv bodies) = true
is_rule (Terminated fv bodies) = true
is_rule (Happens atom bodies) = true
is_rule (HoldsFor fv e) = true
is_rule form = false

-- the conditions of a rule, the trigger among them, none where a statement has none
abbrev pub conditions_of : PlainForm → List Body
conditions_of (Initiated fv bodies) = bodies
conditions_of (Terminated fv bodies) = bodies
conditions_of (Happens atom bodies) = bodies
conditions_of form = []

-- the atom of an event: itself, or that of the fluent-value that begins or ends
abbrev pub atom_of : EventText → Atom
atom_of (event.Plain atom) = atom
atom_of (event.Start fv) = fv.atom
atom_of (event.End fv) = fv.atom
