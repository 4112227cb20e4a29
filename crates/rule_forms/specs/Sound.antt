-- Public contracts speak by this: which forms are sound.
-- Which forms are sound: words of their kinds, a member where a list needs one, numbers of at most
-- 16 digits, and at most eight constructs inside one another.
use Rattle.std.specs.Prelude.{◌≡◌, ◌<◌, ◌^◌, ℕ, zero, suc, Bool, true, List, [], ◌∷◌, length}
use Rattle.std.specs.Char.{is_ascii_uppercase}
use Rattle.rt_base.specs.Kinds.{is_word, is_name, is_constant}
use Rattle.rule_forms.specs.declared.form.Decl.{Decl}
use Rattle.rule_forms.specs.declared.form.Term.{Term}
use Rattle.rule_forms.specs.declared.form.Term.TheVariants as term
use Rattle.rule_forms.specs.declared.form.Atom.{Atom}
use Rattle.rule_forms.specs.declared.form.Fv.{Fv}
use Rattle.rule_forms.specs.declared.form.EventText.{EventText}
use Rattle.rule_forms.specs.declared.form.EventText.TheVariants as event
use Rattle.rule_forms.specs.declared.form.Body.{Body}
use Rattle.rule_forms.specs.declared.form.Body.TheVariants as body
use Rattle.rule_forms.specs.declared.syntax.Syntax.{Syntax}
use Rattle.rule_forms.specs.declared.syntax.Statement.{Statement}
use Rattle.rule_forms.specs.Forms.{Expression, Expressions, Value_of, Union_of, Intersect_of}
use Rattle.rule_forms.specs.Forms.{Complement_of, none, more, PlainForm, plain_form, Window, Step}
use Rattle.rule_forms.specs.Forms.{From, Queries, Domain, Input, Simple, Static, Derived, Initially}
use Rattle.rule_forms.specs.Forms.{Initiated, Terminated, Happens, HoldsFor}

-- each of them is so
abbrev pub AllOf : {A : Type 0} → (A → Type 0) → List A → Type 0
AllOf P [] = Unit {0}
AllOf P (x ∷ xs) = P x × AllOf P xs

-- each of them is so, and there is one
abbrev pub SomeOf : {A : Type 0} → (A → Type 0) → List A → Type 0
SomeOf P [] = ⊥
SomeOf P (x ∷ xs) = P x × AllOf P xs

-- a word that begins with an upper-case letter
abbrev pub is_variable : List ℕ → Bool
is_variable word = is_word is_ascii_uppercase word

abbrev pub IsName : List ℕ → Type 0
IsName word = is_name word ≡ true

abbrev pub IsConstant : List ℕ → Type 0
IsConstant word = is_constant word ≡ true

abbrev pub IsVariable : List ℕ → Type 0
IsVariable word = is_variable word ≡ true

-- at most 16 digits write the number
abbrev pub FitsSixteenDigits : ℕ → Type 0
FitsSixteenDigits n = n < 10 ^ 16

abbrev pub IsSoundDecl : Decl → Type 0
IsSoundDecl decl = IsName decl.name × AllOf IsName decl.args

abbrev pub IsSoundTerm : Term → Type 0
IsSoundTerm (term.Entity w) = IsConstant w
IsSoundTerm (term.Variable w) = IsVariable w

abbrev pub IsSoundAtom : Atom → Type 0
IsSoundAtom atom = IsName atom.name × AllOf IsSoundTerm atom.args

abbrev pub IsSoundFv : Fv → Type 0
IsSoundFv fv = IsSoundAtom fv.atom × IsConstant fv.value

abbrev pub IsSoundEvent : EventText → Type 0
IsSoundEvent (event.Plain atom) = IsSoundAtom atom
IsSoundEvent (event.Start fv) = IsSoundFv fv
IsSoundEvent (event.End fv) = IsSoundFv fv

abbrev pub IsSoundBody : Body → Type 0
IsSoundBody (body.Happens positive event) = IsSoundEvent event
IsSoundBody (body.Holds positive fv) = IsSoundFv fv
IsSoundBody (body.Unequal x y) = IsVariable x × IsVariable y

-- at most so many constructs stand inside one another, and each list has a member
abbrev mutual
  pub IsSoundExpression : ℕ → Expression → Type 0
  IsSoundExpression depth (Value_of fv) = IsSoundFv fv
  IsSoundExpression zero (Union_of es) = ⊥
  IsSoundExpression zero (Intersect_of es) = ⊥
  IsSoundExpression zero (Complement_of e es) = ⊥
  IsSoundExpression (suc depth) (Union_of es) = AreSoundMembers depth es
  IsSoundExpression (suc depth) (Intersect_of es) = AreSoundMembers depth es
  IsSoundExpression (suc depth) (Complement_of e es) = IsSoundExpression depth e
      × AreSoundMembers depth es

  pub AreSoundMembers : ℕ → Expressions → Type 0
  AreSoundMembers depth none = ⊥
  AreSoundMembers depth (more e es) = IsSoundExpression depth e × AreSoundOthers depth es

  pub AreSoundOthers : ℕ → Expressions → Type 0
  AreSoundOthers depth none = Unit {0}
  AreSoundOthers depth (more e es) = IsSoundExpression depth e × AreSoundOthers depth es

abbrev pub IsSoundForm : PlainForm → Type 0
IsSoundForm (Window n) = FitsSixteenDigits n
IsSoundForm (Step n) = FitsSixteenDigits n
IsSoundForm (From n) = FitsSixteenDigits n
IsSoundForm (Queries n) = FitsSixteenDigits n
IsSoundForm (Domain name entities) = IsName name × AllOf IsConstant entities
IsSoundForm (Input decl) = IsSoundDecl decl
IsSoundForm (Simple decl values) = IsSoundDecl decl × SomeOf IsConstant values
IsSoundForm (Static decl values) = IsSoundDecl decl × SomeOf IsConstant values
IsSoundForm (Derived decl) = IsSoundDecl decl
IsSoundForm (Initially fv) = IsSoundFv fv
IsSoundForm (Initiated fv bodies) = IsSoundFv fv × SomeOf IsSoundBody bodies
IsSoundForm (Terminated fv bodies) = IsSoundFv fv × SomeOf IsSoundBody bodies
IsSoundForm (Happens atom bodies) = IsSoundAtom atom × SomeOf IsSoundBody bodies
IsSoundForm (HoldsFor fv e) = IsSoundFv fv × IsSoundExpression 8 e

abbrev pub IsSoundStatement : Statement → Type 0
IsSoundStatement statement = IsSoundForm (plain_form statement.form)

-- fewer statements than a u32 counts, each of a sound form
pub record IsSound (syntax : Syntax) : Type 0 where
  pub few : length syntax.statements < 2 ^ 32
  pub forms : AllOf IsSoundStatement syntax.statements
