-- Public contracts speak by this: when a text spells a list of statements.
use Rattle.std.specs.Prelude.{◌≡◌, ℕ, true, List, [], ◌∷◌, ◌++◌, None}
use Rattle.rule_read.specs.declared.keyword.Keyword.{Keyword}
use Rattle.rule_read.specs.declared.keyword.Keyword.TheVariants as key
use Rattle.rule_read.specs.Tokens.{Token}
use Rattle.rule_read.specs.Sentences.{Sentence, sentences_of, bad_byte_of}
use Rattle.rule_read.specs.Words.{is_number, number_of}
use Rattle.rule_forms.specs.Forms.{PlainForm, PlainStatement, Window, Step, From, Queries}
use Rattle.rule_read.specs.FormTokens.{form_tokens, number_tokens}
use Rattle.rule_forms.specs.Sound.{AllOf, IsSoundForm}

-- digits of the number, leading zeros or not, in a statement of this word
abbrev pub SpellsNumber : Keyword → ℕ → List Token → Type 0
SpellsNumber k n ts = (digits : List ℕ) × (is_number digits ≡ true) × (number_of digits ≡ n)
    × (ts ≡ number_tokens k digits)

-- Tokens before a dot spell a form where they are its tokens, leading zeros of a number aside.
abbrev pub SpellsForm : List Token → PlainForm → Type 0
SpellsForm ts (Window n) = SpellsNumber key.Window n ts
SpellsForm ts (Step n) = SpellsNumber key.Step n ts
SpellsForm ts (From n) = SpellsNumber key.From n ts
SpellsForm ts (Queries n) = SpellsNumber key.Queries n ts
SpellsForm ts f = ts ≡ form_tokens f

-- the tokens and a dot spell the form, which is sound
abbrev pub HasForm : Sentence → PlainForm → Type 0
HasForm s f = (s.whole ≡ true) × SpellsForm s.tokens f × IsSoundForm f

-- one after the other, each with the line of its first token
abbrev pub SpellEach : List Sentence → List PlainStatement → Type 0
SpellEach [] [] = Unit {0}
SpellEach (s ∷ ss) (x ∷ xs) = ((x.line ≡ s.line) × HasForm s x.form) × SpellEach ss xs
SpellEach ss xs = ⊥

-- A text of permitted bytes spells statements of sound forms.
pub record Spells (text : List ℕ) (statements : List PlainStatement) : Type 0 where
  pub bytes : bad_byte_of text ≡ None
  pub statements_are : SpellEach (sentences_of text) statements

abbrev pub HasSomeForm : Sentence → Type 0
HasSomeForm s = (f : PlainForm) × HasForm s f

-- the line where the first statement that has no form begins
pub record IsFirstUnformed (statements : List Sentence) (line : ℕ) : Type 0 where
  pub before : List Sentence
  pub unformed : Sentence
  pub behind : List Sentence
  pub are : statements ≡ before ++ (unformed ∷ behind)
  pub formed_before : AllOf HasSomeForm before
  pub none : HasSomeForm unformed → ⊥
  pub line_is : line ≡ unformed.line
