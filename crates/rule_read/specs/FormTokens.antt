-- Public contracts speak by this: the tokens of each form.
use Rattle.std.specs.Prelude.{ℕ, Bool, true, false, List, [], ◌∷◌, ◌++◌, map, decimal}
use Rattle.rule_read.specs.declared.token.Mark.TheVariants.{Open, Close, OpenList, CloseList, Comma}
use Rattle.rule_read.specs.declared.token.Mark.TheVariants.{Equals, If, Differs}
use Rattle.rule_read.specs.declared.keyword.Keyword.{Keyword}
use Rattle.rule_read.specs.declared.keyword.Keyword.TheVariants as key
use Rattle.rule_forms.specs.declared.form.Decl.{Decl}
use Rattle.rule_forms.specs.declared.form.Term.{Term}
use Rattle.rule_forms.specs.declared.form.Term.TheVariants as term
use Rattle.rule_forms.specs.declared.form.Atom.{Atom}
use Rattle.rule_forms.specs.declared.form.Fv.{Fv}
use Rattle.rule_forms.specs.declared.form.EventText.{EventText}
use Rattle.rule_forms.specs.declared.form.EventText.TheVariants as event
use Rattle.rule_forms.specs.declared.form.Body.{Body}
use Rattle.rule_forms.specs.declared.form.Body.TheVariants as body
use Rattle.rule_forms.specs.Forms.{Expression, Expressions, Value_of, Union_of, Intersect_of}
use Rattle.rule_forms.specs.Forms.{Complement_of, none, more, PlainForm, Window, Step, From}
use Rattle.rule_forms.specs.Forms.{Queries, Domain, Input, Simple, Static, Derived, Initially}
use Rattle.rule_forms.specs.Forms.{Initiated, Terminated, Happens, HoldsFor}
use Rattle.rule_read.specs.Tokens.{Token, Word, Sign}
use Rattle.rule_read.specs.Words.{spelled}

abbrev pub keyword : Keyword → Token
keyword k = Word (spelled k)

abbrev pub word_tokens : List ℕ → List Token
word_tokens word = Word word ∷ []

-- members with commas between them
abbrev pub commas : List (List Token) → List Token
commas [] = []
commas (x ∷ []) = x
commas (x ∷ y ∷ rest) = x ++ (Sign Comma ∷ commas (y ∷ rest))

abbrev pub in_parentheses : List Token → List Token
in_parentheses ts = Sign Open ∷ (ts ++ (Sign Close ∷ []))

abbrev pub in_brackets : List (List Token) → List Token
in_brackets members = Sign OpenList ∷ (commas members ++ (Sign CloseList ∷ []))

-- arguments in parentheses, which are left out where there are none
abbrev pub arguments : List (List Token) → List Token
arguments [] = []
arguments (x ∷ xs) = in_parentheses (commas (x ∷ xs))

abbrev pub decl_tokens : Decl → List Token
decl_tokens decl = Word decl.name ∷ arguments (map word_tokens decl.args)

abbrev pub term_tokens : Term → List Token
term_tokens (term.Entity w) = word_tokens w
term_tokens (term.Variable w) = word_tokens w

abbrev pub atom_tokens : Atom → List Token
atom_tokens atom = Word atom.name ∷ arguments (map term_tokens atom.args)

abbrev pub fv_tokens : Fv → List Token
fv_tokens fv = atom_tokens fv.atom ++ (Sign Equals ∷ Word fv.value ∷ [])

abbrev pub event_tokens : EventText → List Token
event_tokens (event.Plain atom) = atom_tokens atom
event_tokens (event.Start fv) = keyword key.Start ∷ in_parentheses (fv_tokens fv)
event_tokens (event.End fv) = keyword key.End ∷ in_parentheses (fv_tokens fv)

abbrev pub unless : Bool → List Token
unless true = []
unless false = keyword key.Not ∷ []

abbrev pub body_tokens : Body → List Token
body_tokens (body.Happens positive event) =
    unless positive ++ (keyword key.HappensAt ∷ in_parentheses (event_tokens event))
body_tokens (body.Holds positive fv) = unless positive ++ (keyword key.HoldsAt ∷ in_parentheses
    (fv_tokens fv))
body_tokens (body.Unequal x y) = Word x ∷ Sign Differs ∷ Word y ∷ []

abbrev mutual
  pub expression_tokens : Expression → List Token
  expression_tokens (Value_of fv) = fv_tokens fv
  expression_tokens (Union_of es) = keyword key.UnionAll ∷ in_parentheses
      (in_brackets (row_tokens es))
  expression_tokens (Intersect_of es) = keyword key.IntersectAll ∷ in_parentheses
      (in_brackets (row_tokens es))
  expression_tokens (Complement_of e es) =
      keyword key.RelativeComplementAll ∷ in_parentheses (expression_tokens e
      ++ (Sign Comma ∷ in_brackets (row_tokens es)))

  pub row_tokens : Expressions → List (List Token)
  row_tokens none = []
  row_tokens (more e es) = expression_tokens e ∷ row_tokens es

-- a statement of a number, which these digits write
abbrev pub number_tokens : Keyword → List ℕ → List Token
number_tokens k digits = keyword k ∷ in_parentheses (Word digits ∷ [])

-- a rule of a head in parentheses
abbrev pub rule_tokens : Keyword → List Token → List Token → List Token
rule_tokens k head body = keyword k ∷ (in_parentheses head ++ (Sign If ∷ body))

-- The tokens of a statement before its dot, numbers without leading zeros.
abbrev pub form_tokens : PlainForm → List Token
form_tokens (Window n) = number_tokens key.Window (decimal n)
form_tokens (Step n) = number_tokens key.Step (decimal n)
form_tokens (From n) = number_tokens key.From (decimal n)
form_tokens (Queries n) = number_tokens key.Queries (decimal n)
form_tokens (Domain name entities) = keyword key.Domain ∷ Word name ∷ in_brackets
    (map word_tokens entities)
form_tokens (Input decl) = keyword key.Input ∷ decl_tokens decl
form_tokens (Simple decl values) = keyword key.Simple ∷ (decl_tokens decl ++ in_brackets
    (map word_tokens values))
form_tokens (Static decl values) = keyword key.Static ∷ (decl_tokens decl ++ in_brackets
    (map word_tokens values))
form_tokens (Derived decl) = keyword key.Derived ∷ decl_tokens decl
form_tokens (Initially fv) = keyword key.Initially ∷ in_parentheses (fv_tokens fv)
form_tokens (Initiated fv bodies) = rule_tokens key.InitiatedAt (fv_tokens fv)
    (commas (map body_tokens bodies))
form_tokens (Terminated fv bodies) = rule_tokens key.TerminatedAt (fv_tokens fv)
    (commas (map body_tokens bodies))
form_tokens (Happens atom bodies) = rule_tokens key.HappensAt (atom_tokens atom)
    (commas (map body_tokens bodies))
form_tokens (HoldsFor fv e) = rule_tokens key.HoldsFor (fv_tokens fv) (expression_tokens e)
