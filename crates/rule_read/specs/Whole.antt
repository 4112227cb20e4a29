-- Public contracts speak by this: what a whole text reads as.
use Rattle.std.specs.Prelude.{◌≡◌, ◌≤◌, ◌<◌, ℕ, nat_lt, List, [], ◌∷◌, ◌++◌, length, map, Option}
use Rattle.std.specs.Prelude.{Some, None, Result, Ok, Err, if◌then◌else◌}
use Rattle.rule_forms.specs.declared.syntax.Syntax.{Syntax}
use Rattle.rule_read.specs.declared.refused.ReadRefused.{ReadRefused}
use Rattle.rule_read.specs.declared.refused.ReadRefused.TheVariants as refused
use Rattle.rule_read.specs.Sentences.{Sentence, sentences_of, bad_byte_of}
use Rattle.rule_forms.specs.Forms.{PlainForm, PlainStatement, plain}
use Rattle.rule_read.specs.Grammar.{Spells, IsFirstUnformed}
use Rattle.rule_read.specs.Reading.{form_of}

-- the longest text, in bytes
abbrev pub longest : ℕ
longest = 1048576

-- Statements, or the first of these that is there: more bytes than the longest text has; the line
-- of the first byte that is not permitted; the line where the first statement without a form
-- begins.
pub data Reading : Type 0 where
  TooLong : Reading
  BadByte : ℕ → Reading
  BadStatement : ℕ → Reading
  Statements : List PlainStatement → Reading

abbrev pub after_first : List PlainStatement → Reading → Reading
after_first front (Statements statements) = Statements (front ++ statements)
after_first front other = other

-- a statement with this form, or without one, on a line, and then others
abbrev pub after_form : Option PlainForm → ℕ → Reading → Reading
after_form None line others = BadStatement line
after_form (Some f) line others = after_first (record { line = line; form = f } ∷ []) others

abbrev pub formed : Sentence → Option PlainForm
formed s = if s.whole then form_of s.tokens else None

unfoldable pub forms_of : List Sentence → Reading
forms_of [] = Statements []
forms_of (s ∷ ss) = after_form (formed s) s.line (forms_of ss)

abbrev pub unless_bad : Option ℕ → Reading → Reading
unless_bad None others = others
unless_bad (Some line) others = BadByte line

abbrev pub reading : List ℕ → Reading
reading text = if nat_lt longest (length text) then TooLong else unless_bad (bad_byte_of text)
    (forms_of (sentences_of text))

-- what was answered is what the text reads as, unless memory ran out
abbrev pub Answers : Result Syntax ReadRefused → Reading → Type 0
Answers (Ok syntax) read = read ≡ Statements (map plain syntax.statements)
Answers (Err refused.TooLong) read = read ≡ TooLong
Answers (Err (refused.BadByte line)) read = read ≡ BadByte line
Answers (Err (refused.BadStatement line)) read = read ≡ BadStatement line
Answers (Err refused.OutOfMemory) read = Unit {0}

-- What a reading says of its text, in the words of the grammar. For each text one reading is so.
abbrev pub Means : List ℕ → Reading → Type 0
Means text TooLong = longest < length text
Means text (BadByte line) = (length text ≤ longest) × (bad_byte_of text ≡ Some line)
Means text (BadStatement line) = (length text ≤ longest) × (bad_byte_of text ≡ None)
    × IsFirstUnformed (sentences_of text) line
Means text (Statements statements) = (length text ≤ longest) × Spells text statements
