-- The tokens of sound forms are written so that they are read again.
use Rattle.std.proofs.Common.{◌≡◌, ℕ, zero, suc, ◌<◌, ◌^◌, Bool, true, false, not, List, [], ◌∷◌}
use Rattle.std.proofs.Common.{◌++◌, map, decimal, refl, arith}
use Rattle.std.proofs.lemmas.Bool.Decides.{nat_tests}
use Rattle.rt_base.specs.Kinds.{is_word, is_reserved}
use Rattle.std.proofs.lemmas.Bool.{and_parts}
use Rattle.rule_read.proofs.Members.{some_all}
use Rattle.rule_read.specs.declared.token.Mark.TheVariants.{Close, CloseList, Comma, Equals, If}
use Rattle.rule_read.specs.declared.keyword.Keyword.{Keyword}
use Rattle.rule_read.specs.declared.keyword.Keyword.TheVariants as key
use Rattle.rule_forms.specs.declared.form.Decl.{Decl}
use Rattle.rule_forms.specs.declared.form.Term.{Term}
use Rattle.rule_forms.specs.declared.form.Term.TheVariants as term
use Rattle.rule_forms.specs.declared.form.Atom.{Atom}
use Rattle.rule_forms.specs.declared.form.Fv.{Fv}
use Rattle.rule_forms.specs.declared.form.EventText.{EventText}
use Rattle.rule_forms.specs.declared.form.EventText.TheVariants as event
use Rattle.rule_forms.specs.declared.form.Body.{Body}
use Rattle.rule_forms.specs.declared.form.Body.TheVariants as body
use Rattle.rule_read.specs.Tokens.{Token, Word, Sign}
use Rattle.rule_forms.specs.Forms.{Expression, Expressions, Value_of, Union_of, Intersect_of}
use Rattle.rule_forms.specs.Forms.{Complement_of, none, more, PlainForm, Window, Step, From}
use Rattle.rule_forms.specs.Forms.{Queries, Domain, Input, Simple, Static, Derived, Initially}
use Rattle.rule_forms.specs.Forms.{Initiated, Terminated, Happens, HoldsFor}
use Rattle.rule_read.specs.FormTokens.{keyword, word_tokens, commas, in_parentheses, in_brackets}
use Rattle.rule_read.specs.FormTokens.{arguments, decl_tokens, term_tokens, atom_tokens, fv_tokens}
use Rattle.rule_read.specs.FormTokens.{event_tokens, unless, body_tokens, expression_tokens}
use Rattle.rule_read.specs.FormTokens.{row_tokens, number_tokens, rule_tokens, form_tokens}
use Rattle.rule_forms.specs.Sound.{AllOf, SomeOf, IsName, IsConstant, IsVariable, IsSoundDecl}
use Rattle.rule_forms.specs.Sound.{IsSoundTerm, IsSoundAtom, IsSoundFv, IsSoundEvent, IsSoundBody}
use Rattle.rule_forms.specs.Sound.{IsSoundExpression, AreSoundMembers, AreSoundOthers, IsSoundForm}
use Rattle.rule_read.proofs.Cuts.{IsWritten}
use Rattle.rule_read.proofs.Digits.{digits_are_letters}

abbrev pub AreWritten : List Token → Type 0
AreWritten ts = AllOf IsWritten ts

-- ---- lists

beside : (xs ys : List Token) → AreWritten xs → AreWritten ys → AreWritten (xs ++ ys)
beside [] ys h k = k
beside (x ∷ xs) ys h k = (h.0, beside xs ys h.1 k)

commas_written : (xs : List (List Token)) → AllOf AreWritten xs → AreWritten (commas xs)
commas_written [] h = tt
commas_written (x ∷ []) h = h.0
commas_written (x ∷ y ∷ rest) h = beside x (Sign Comma ∷ commas (y ∷ rest)) h.0
    (tt, commas_written (y ∷ rest) h.1)

parentheses_written : (ts : List Token) → AreWritten ts → AreWritten (in_parentheses ts)
parentheses_written ts h = (tt, beside ts (Sign Close ∷ []) h (tt, tt))

brackets_written : (xs : List (List Token)) → AllOf AreWritten xs → AreWritten (in_brackets xs)
brackets_written xs h = (
  tt,
  beside (commas xs) (Sign CloseList ∷ []) (commas_written xs h)
      (tt, tt),
)

arguments_written : (xs : List (List Token)) → AllOf AreWritten xs → AreWritten (arguments xs)
arguments_written [] h = tt
arguments_written (x ∷ xs) h = parentheses_written (commas (x ∷ xs)) (commas_written (x ∷ xs) h)

each : {A : Type 0} (P : A → Type 0) (toks : A → List Token)
    → ((x : A) → P x → AreWritten (toks x)) → (xs : List A) → AllOf P xs
    → AllOf AreWritten (map toks xs)
each P toks one [] h = tt
each P toks one (x ∷ xs) h = (one x h.0, each P toks one xs h.1)

-- ---- words

word_written : (kind : ℕ → Bool) (w : List ℕ) → is_word kind w ≡ true → IsWritten (Word w)
word_written kind [] h = absurd cc
word_written kind (b ∷ w) h = (grind (arith, nat_tests), omega arith)

name_written : (w : List ℕ) → IsName w → IsWritten (Word w)
name_written w h = word_written _ w (and_parts _ (not (is_reserved w)) h).0

constant_written : (w : List ℕ) → IsConstant w → IsWritten (Word w)
constant_written w h = word_written _ w h

variable_written : (w : List ℕ) → IsVariable w → IsWritten (Word w)
variable_written w h = word_written _ w h

key_written : (k : Keyword) → IsWritten (keyword k)
key_written key.Window = (refl, omega arith)
key_written key.Step = (refl, omega arith)
key_written key.From = (refl, omega arith)
key_written key.Queries = (refl, omega arith)
key_written key.Domain = (refl, omega arith)
key_written key.Input = (refl, omega arith)
key_written key.Simple = (refl, omega arith)
key_written key.Static = (refl, omega arith)
key_written key.Derived = (refl, omega arith)
key_written key.Initially = (refl, omega arith)
key_written key.InitiatedAt = (refl, omega arith)
key_written key.TerminatedAt = (refl, omega arith)
key_written key.HappensAt = (refl, omega arith)
key_written key.HoldsAt = (refl, omega arith)
key_written key.HoldsFor = (refl, omega arith)
key_written key.Start = (refl, omega arith)
key_written key.End = (refl, omega arith)
key_written key.Not = (refl, omega arith)
key_written key.UnionAll = (refl, omega arith)
key_written key.IntersectAll = (refl, omega arith)
key_written key.RelativeComplementAll = (refl, omega arith)
key_written key.Expires = (refl, omega arith)

-- ---- parts

row_written : (P : List ℕ → Type 0) → ((w : List ℕ) → P w → IsWritten (Word w))
    → (words : List (List ℕ)) → AllOf P words → AreWritten (in_brackets (map word_tokens words))
row_written P one words h = brackets_written (map word_tokens words)
    (each P word_tokens (λ w k. (one w k, tt)) words h)

decl_written : (decl : Decl) → IsSoundDecl decl → AreWritten (decl_tokens decl)
decl_written decl h = (
  name_written decl.name h.0,
  arguments_written (map word_tokens decl.args)
      (each IsName word_tokens (λ w k. (name_written w k, tt)) decl.args h.1),
)

term_written : (t : Term) → IsSoundTerm t → AreWritten (term_tokens t)
term_written (term.Entity w) h = (constant_written w h, tt)
term_written (term.Variable w) h = (variable_written w h, tt)

atom_written : (atom : Atom) → IsSoundAtom atom → AreWritten (atom_tokens atom)
atom_written atom h = (
  name_written atom.name h.0,
  arguments_written (map term_tokens atom.args)
      (each IsSoundTerm term_tokens term_written atom.args h.1),
)

fv_written : (fv : Fv) → IsSoundFv fv → AreWritten (fv_tokens fv)
fv_written fv h = beside (atom_tokens fv.atom) (Sign Equals ∷ Word fv.value ∷ [])
    (atom_written fv.atom h.0) (tt, (constant_written fv.value h.1, tt))

event_written : (e : EventText) → IsSoundEvent e → AreWritten (event_tokens e)
event_written (event.Plain atom) h = atom_written atom h
event_written (event.Start fv) h = (
  key_written key.Start,
  parentheses_written (fv_tokens fv)
      (fv_written fv h),
)
event_written (event.End fv) h = (
  key_written key.End,
  parentheses_written (fv_tokens fv)
      (fv_written fv h),
)

unless_written : (positive : Bool) → AreWritten (unless positive)
unless_written true = tt
unless_written false = (key_written key.Not, tt)

body_written : (b : Body) → IsSoundBody b → AreWritten (body_tokens b)
body_written (body.Happens positive e) h =
    beside (unless positive) (keyword key.HappensAt ∷ in_parentheses (event_tokens e))
    (unless_written positive) (
      key_written key.HappensAt,
      parentheses_written (event_tokens e)
          (event_written e h),
    )
body_written (body.Holds positive fv) h =
    beside (unless positive) (keyword key.HoldsAt ∷ in_parentheses (fv_tokens fv))
    (unless_written positive) (
      key_written key.HoldsAt,
      parentheses_written (fv_tokens fv)
          (fv_written fv h),
    )
body_written (body.Unequal x y) h = (variable_written x h.0, (tt, (variable_written y h.1, tt)))

bodies_written : (bodies : List Body) → SomeOf IsSoundBody bodies
    → AreWritten (commas (map body_tokens bodies))
bodies_written bodies h = commas_written (map body_tokens bodies) (each IsSoundBody body_tokens
    body_written bodies (some_all IsSoundBody bodies h))

-- ---- expressions

mutual
  expression_written : (depth : ℕ) (e : Expression) → IsSoundExpression depth e
      → AreWritten (expression_tokens e)
  expression_written depth (Value_of fv) h = fv_written fv h
  expression_written zero (Union_of es) h = absurd h
  expression_written zero (Intersect_of es) h = absurd h
  expression_written zero (Complement_of e es) h = absurd h
  expression_written (suc depth) (Union_of es) h = (
    key_written key.UnionAll,
    parentheses_written (in_brackets (row_tokens es))
        (brackets_written (row_tokens es) (members_written depth es h)),
  )
  expression_written (suc depth) (Intersect_of es) h = (
    key_written key.IntersectAll,
    parentheses_written (in_brackets (row_tokens es))
        (brackets_written (row_tokens es) (members_written depth es h)),
  )
  expression_written (suc depth) (Complement_of e es) h = (
    key_written key.RelativeComplementAll,
    parentheses_written (expression_tokens e ++ (Sign Comma ∷ in_brackets (row_tokens es)))
        (beside (expression_tokens e) (Sign Comma ∷ in_brackets (row_tokens es))
        (expression_written depth e h.0) (
          tt,
          brackets_written (row_tokens es)
              (members_written depth es h.1),
        )),
  )

  members_written : (depth : ℕ) (es : Expressions) → AreSoundMembers depth es
      → AllOf AreWritten (row_tokens es)
  members_written depth none h = absurd h
  members_written depth (more e es) h = (
    expression_written depth e h.0,
    others_written depth es
        h.1,
  )

  others_written : (depth : ℕ) (es : Expressions) → AreSoundOthers depth es
      → AllOf AreWritten (row_tokens es)
  others_written depth none h = tt
  others_written depth (more e es) h = (expression_written depth e h.0, others_written depth es h.1)

-- ---- statements

number_written : (k : Keyword) (n : ℕ) → n < 10 ^ 16 → AreWritten (number_tokens k (decimal n))
number_written k n h = (
  key_written k,
  parentheses_written (Word (decimal n) ∷ [])
      (digits_are_letters n h, tt),
)

valued_written : (k : Keyword) (decl : Decl) (values : List (List ℕ)) → IsSoundDecl decl
    → SomeOf IsConstant values → AreWritten
    (keyword k ∷ (decl_tokens decl ++ in_brackets (map word_tokens values)))
valued_written k decl values h v = (
  key_written k,
  beside (decl_tokens decl) (in_brackets (map word_tokens values))
      (decl_written decl h) (row_written IsConstant constant_written values
      (some_all IsConstant values v)),
)

rule_written : (k : Keyword) (head behind : List Token) → AreWritten head → AreWritten behind
    → AreWritten (rule_tokens k head behind)
rule_written k head behind h b = (
  key_written k,
  beside (in_parentheses head) (Sign If ∷ behind)
      (parentheses_written head h) (tt, b),
)

pub form_written : (f : PlainForm) → IsSoundForm f → AreWritten (form_tokens f)
form_written (Window n) h = number_written key.Window n h
form_written (Step n) h = number_written key.Step n h
form_written (From n) h = number_written key.From n h
form_written (Queries n) h = number_written key.Queries n h
form_written (Domain name entities) h = (
  key_written key.Domain,
  (name_written name h.0, row_written IsConstant constant_written entities h.1),
)
form_written (Input decl) h = (key_written key.Input, decl_written decl h)
form_written (Simple decl values) h = valued_written key.Simple decl values h.0 h.1
form_written (Static decl values) h = valued_written key.Static decl values h.0 h.1
form_written (Derived decl) h = (key_written key.Derived, decl_written decl h)
form_written (Initially fv) h = (
  key_written key.Initially,
  parentheses_written (fv_tokens fv)
      (fv_written fv h),
)
form_written (Initiated fv bodies) h = rule_written key.InitiatedAt (fv_tokens fv)
    (commas (map body_tokens bodies)) (fv_written fv h.0) (bodies_written bodies h.1)
form_written (Terminated fv bodies) h = rule_written key.TerminatedAt (fv_tokens fv)
    (commas (map body_tokens bodies)) (fv_written fv h.0) (bodies_written bodies h.1)
form_written (Happens atom bodies) h = rule_written key.HappensAt (atom_tokens atom)
    (commas (map body_tokens bodies)) (atom_written atom h.0) (bodies_written bodies h.1)
form_written (HoldsFor fv e) h = rule_written key.HoldsFor (fv_tokens fv) (expression_tokens e)
    (fv_written fv h.0) (expression_written 8 e h.1)
