-- A text, statement by statement.
use Rattle.std.proofs.lemmas.Bool.Decides.{nat_tests}
use Rattle.std.proofs.Common.{length, ◌<◌, ◌≤◌, nat_lt, arith, Ok, Err, ◌≡◌, ℕ, true, false, List}
use Rattle.std.proofs.Common.{[], ◌∷◌, ◌++◌, map, Some, None, refl, sym, ap, ◌∙◌, append_assoc}
use Rattle.std.proofs.lemmas.List.{append-nil, map-append}
use Rattle.std.specs.Global.{Vec}
use Rattle.rule_forms.specs.declared.syntax.Statement.{Statement}
use Rattle.rule_read.specs.declared.refused.ReadRefused.{ReadRefused}
use Rattle.rule_read.specs.declared.refused.ReadRefused.TheVariants as refused
use Rattle.rule_read.specs.Tokens.{Token}
use Rattle.rule_read.specs.Sentences.{Sentence, lead, sentences_of, bad_byte_of}
use Rattle.rule_forms.specs.Forms.{PlainForm, PlainStatement, plain}
use Rattle.rule_read.specs.Reading.{form_of}
use Rattle.rule_read.specs.Whole.{Reading, TooLong, BadByte, BadStatement, Statements, forms_of}
use Rattle.rule_read.specs.Whole.{after_first, after_form, longest, reading, Answers}
use Rattle.rule_read.specs.Stated.{States}

lead_whole : (line : ℕ) (ts : List Token) (ss : List Sentence)
    → lead line ts (record { line = line; tokens = []; whole = true } ∷ ss) ≡ record {
      line = line;
      tokens = ts;
      whole = true;
    } ∷ ss
lead_whole line [] ss = refl
lead_whole line (t ∷ ts) ss = ap (λ (x : List Token). record {
  line = line;
  tokens = t ∷ x;
  whole = true;
} ∷ ss) (append-nil ts)

pub dot_formed : (line : ℕ) (ts : List Token) (ss : List Sentence) (f : PlainForm)
    → form_of ts ≡ Some f
    → forms_of (lead line ts (record { line = line; tokens = []; whole = true } ∷ ss))
    ≡ after_first (record { line = line; form = f } ∷ []) (forms_of ss)
unfolding forms_of
dot_formed line ts ss f e = ap forms_of (lead_whole line ts ss)
    ∙ ap (λ o. after_form o line (forms_of ss)) e

pub dot_unformed : (line : ℕ) (ts : List Token) (ss : List Sentence) → form_of ts ≡ None
    → forms_of (lead line ts (record { line = line; tokens = []; whole = true } ∷ ss))
    ≡ BadStatement line
unfolding forms_of
dot_unformed line ts ss e = ap forms_of (lead_whole line ts ss)
    ∙ ap (λ o. after_form o line (forms_of ss)) e

pub end_some : (line : ℕ) (t : Token) (ts : List Token) → forms_of (lead line (t ∷ ts) [])
    ≡ BadStatement line
unfolding forms_of
end_some line t ts = refl

pub end_none : (line : ℕ) → forms_of (lead line [] []) ≡ Statements []
unfolding forms_of
end_none line = refl

pub next_statement : (front : List Statement) (s : Statement) (o : Reading)
    → after_first (map plain front) (after_first (plain s ∷ []) o)
    ≡ after_first (map plain (front ++ s ∷ [])) o
next_statement front s (Statements xs) =
    ap Statements (sym (append_assoc (map plain front) (plain s ∷ []) xs)
    ∙ ap (λ (x : List PlainStatement). x ++ xs) (sym (map-append plain front (s ∷ []))))
next_statement front s (BadStatement line) = refl
next_statement front s (BadByte line) = refl
next_statement front s TooLong = refl

pub nothing_first : (o : Reading) → after_first [] o ≡ o
nothing_first (Statements xs) = refl
nothing_first (BadStatement line) = refl
nothing_first (BadByte line) = refl
nothing_first TooLong = refl

pub all_first : (xs : List PlainStatement) → after_first xs (Statements []) ≡ Statements xs
all_first xs = ap Statements (append-nil xs)

-- ---- a text

pub reads_too_long : (text : List ℕ) → longest < length text → reading text ≡ TooLong
reads_too_long text h = let long : nat_lt longest (length text) ≡ true = grind (arith, nat_tests)
    in rw long refl

short_enough : (text : List ℕ) → length text ≤ longest → nat_lt longest (length text) ≡ false
short_enough text h = grind (arith, nat_tests)

pub reads_forms : (text : List ℕ) → length text ≤ longest → bad_byte_of text ≡ None
    → reading text ≡ forms_of (sentences_of text)
reads_forms text h fine = rw (short_enough text h, fine) refl

pub reads_bad : (text : List ℕ) (line : ℕ) → length text ≤ longest → bad_byte_of text ≡ Some line
    → reading text ≡ BadByte line
reads_bad text line h bad = rw (short_enough text h, bad) refl

pub reads_statements : (text : List ℕ) (found : Vec Statement) → length text ≤ longest
    → States text (Ok found)
    → reading text ≡ Statements (map plain found.items)
reads_statements text found h states = reads_forms text h states.0 ∙ states.1

pub reads_refused : (text : List ℕ) (e : ReadRefused) → length text ≤ longest → States text (Err e)
    → Answers (Err e) (reading text)
reads_refused text refused.TooLong h states = absurd states
reads_refused text (refused.BadByte line) h states = reads_bad text line h states
reads_refused text (refused.BadStatement line) h states = reads_forms text h states.0 ∙ states.1
reads_refused text refused.OutOfMemory h states = tt
