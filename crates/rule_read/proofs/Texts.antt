-- The canonical text of sound forms spells them, each on a line of its own.
use Rattle.std.proofs.Common.{◌≡◌, ℕ, ◌+◌, ◌<◌, true, false, List, [], ◌∷◌, ◌++◌, map, None, refl}
use Rattle.std.proofs.Common.{sym, ap, subst, ◌∙◌, arith, All}
use Rattle.std.specs.Prelude.{if◌then◌else◌}
use Rattle.std.specs.Str.{IsUtf8}
use Rattle.std.proofs.lemmas.Str.{IsUtf8-from_ascii}
use Rattle.std.proofs.lemmas.Str.Ascii.{IsAscii-from_all}
use Rattle.std.proofs.lemmas.Bool.Decides.{nat_tests}
use Rattle.std.proofs.lemmas.List.Elements.{All-nil, All-cons, All-append, All-weaker}
use Rattle.std.proofs.lemmas.List.Sums.{AllPass-from_list_all}
use Rattle.rt_base.specs.Kinds.{is_letter}
use Rattle.rt_base.proofs.Letters.{letter_low}
use Rattle.rule_read.specs.declared.token.Mark.{Mark}
use Rattle.rule_read.specs.declared.token.Mark.TheVariants.{Open, Close, OpenList, CloseList, Comma}
use Rattle.rule_read.specs.declared.token.Mark.TheVariants.{Equals, If, Differs, Stray}
use Rattle.rule_read.specs.declared.keyword.Keyword.TheVariants as key
use Rattle.rule_forms.specs.declared.syntax.Statement.{Statement}
use Rattle.rule_read.specs.Tokens.{Token, Word, Sign, Dot, Placed, put, cut, pieces}
use Rattle.rule_read.specs.Sentences.{lead, sentences, first_bad}
use Rattle.rule_forms.specs.Forms.{PlainForm, Window, Step, From, Queries, Domain, Input, Simple}
use Rattle.rule_forms.specs.Forms.{Static, Derived, Initially, Initiated, Terminated, Happens}
use Rattle.rule_forms.specs.Forms.{HoldsFor, plain_form}
use Rattle.rule_read.specs.FormTokens.{form_tokens}
use Rattle.rule_forms.specs.Sound.{AllOf, IsSoundForm, IsSoundStatement}
use Rattle.rule_read.specs.Grammar.{SpellsForm, SpellEach, Spells}
use Rattle.rule_read.specs.Canonical.{mark_bytes, token_bytes, space_between, line_of, text_of}
use Rattle.rule_read.specs.Canonical.{on_lines}
use Rattle.rule_read.specs.Printed.{space_behind}
use Rattle.rule_read.proofs.ByToken.{line_more}
use Rattle.rule_read.proofs.Cuts.{IsWritten, said_on, line_cut}
use Rattle.rule_read.proofs.Digits.{number_spelled}
use Rattle.rule_read.proofs.Written.{AreWritten, form_written}

pub forms_sound : (statements : List Statement) → AllOf IsSoundStatement statements
    → AllOf IsSoundForm (map (λ s. plain_form s.form) statements)
forms_sound [] h = tt
forms_sound (s ∷ ss) h = (h.0, forms_sound ss h.1)

-- ---- what a line spells

sentence_said : (line : ℕ) (ts : List Token) (rest : List Placed)
    → sentences (said_on line ts (put line Dot rest)) ≡ record {
      line = line;
      tokens = ts;
      whole = true;
    } ∷ sentences rest
unfolding sentences
sentence_said line [] rest = refl
sentence_said line (t ∷ ts) rest = ap (lead line (t ∷ [])) (sentence_said line ts rest)

nothing_bad : (line : ℕ) (ts : List Token) (rest : List Placed)
    → first_bad (said_on line ts (put line Dot rest)) ≡ first_bad rest
unfolding first_bad
nothing_bad line [] rest = refl
nothing_bad line (t ∷ ts) rest = nothing_bad line ts rest

form_spelled : (f : PlainForm) → IsSoundForm f → SpellsForm (form_tokens f) f
form_spelled (Window n) h = number_spelled key.Window n h
form_spelled (Step n) h = number_spelled key.Step n h
form_spelled (From n) h = number_spelled key.From n h
form_spelled (Queries n) h = number_spelled key.Queries n h
form_spelled (Domain name entities) h = refl
form_spelled (Input decl) h = refl
form_spelled (Simple decl values) h = refl
form_spelled (Static decl values) h = refl
form_spelled (Derived decl) h = refl
form_spelled (Initially fv) h = refl
form_spelled (Initiated fv bodies) h = refl
form_spelled (Terminated fv bodies) h = refl
form_spelled (Happens atom bodies) h = refl
form_spelled (HoldsFor fv e) h = refl

first_line : (line : ℕ) (f : PlainForm) (fs : List PlainForm) → IsSoundForm f
    → pieces line (text_of (f ∷ fs)) ≡ said_on line (form_tokens f)
    (put line Dot (pieces (line + 1) (text_of fs)))
first_line line f fs h = line_cut line (form_tokens f) (text_of fs) (form_written f h)

lines_spelled : (line : ℕ) (fs : List PlainForm) → AllOf IsSoundForm fs
    → SpellEach (sentences (pieces line (text_of fs))) (on_lines line fs)
unfolding sentences cut
lines_spelled line [] h = tt
lines_spelled line (f ∷ fs) h =
    subst (λ ss. SpellEach ss (on_lines line (f ∷ fs)))
    (sym (ap sentences (first_line line f fs h.0) ∙ sentence_said line (form_tokens f)
    (pieces (line + 1) (text_of fs))))
    ((refl, (refl, form_spelled f h.0, h.0)), lines_spelled (line + 1) fs h.1)

lines_clean : (line : ℕ) (fs : List PlainForm) → AllOf IsSoundForm fs
    → first_bad (pieces line (text_of fs)) ≡ None
unfolding first_bad cut
lines_clean line [] h = refl
lines_clean line (f ∷ fs) h =
    ap first_bad (first_line line f fs h.0) ∙ nothing_bad line (form_tokens f)
    (pieces (line + 1) (text_of fs)) ∙ lines_clean (line + 1) fs h.1

pub text_spelled : (fs : List PlainForm) → AllOf IsSoundForm fs
    → Spells (text_of fs) (on_lines 1 fs)
text_spelled fs h = record { bytes = lines_clean 1 fs h; statements_are = lines_spelled 1 fs h }

-- ---- its bytes are text

abbrev AllLow : List ℕ → Type 0
AllLow bytes = All (λ b. b < 128) bytes

low : (b : ℕ) (bs : List ℕ) → b < 128 → AllLow bs → AllLow (b ∷ bs)
low b bs h rest = All-cons (λ b. b < 128) b bs h rest

none_low : AllLow []
none_low = All-nil (λ b. b < 128)

mark_low : (m : Mark) → AllLow (mark_bytes m)
mark_low Open = low 40 [] (omega arith) none_low
mark_low Close = low 41 [] (omega arith) none_low
mark_low OpenList = low 91 [] (omega arith) none_low
mark_low CloseList = low 93 [] (omega arith) none_low
mark_low Comma = low 44 [] (omega arith) none_low
mark_low Equals = low 61 [] (omega arith) none_low
mark_low If = low 58 (45 ∷ []) (omega arith) (low 45 [] (omega arith) none_low)
mark_low Differs = low 92 (61 ∷ []) (omega arith) (low 61 [] (omega arith) none_low)
mark_low Stray = low 45 [] (omega arith) none_low

token_low : (t : Token) → IsWritten t → AllLow (token_bytes t)
token_low (Word w) h = All-weaker (λ b. is_letter b ≡ true) (λ b. b < 128) letter_low w
    (AllPass-from_list_all is_letter w h.0)
token_low (Sign m) h = mark_low m

space_low : (t : Token) (ts : List Token) → AllLow (space_behind t ts)
space_low t [] = none_low
space_low t (u ∷ us) = elim (space_between t u) as (λ b. AllLow (if b then 32 ∷ [] else []))
    [ true ↦ low 32 [] (omega arith) none_low | false ↦ none_low ]

line_low : (ts : List Token) → AreWritten ts → AllLow (line_of ts)
unfolding line_of
line_low [] h = low 46 (10 ∷ []) (omega arith) (low 10 [] (omega arith) none_low)
line_low (t ∷ ts) h =
    subst AllLow (sym (line_more t ts))
    (All-append (λ b. b < 128) (token_bytes t) (space_behind t ts ++ line_of ts) (token_low t h.0)
    (All-append (λ b. b < 128) (space_behind t ts) (line_of ts) (space_low t ts)
    (line_low ts h.1)))

text_low : (fs : List PlainForm) → AllOf IsSoundForm fs → AllLow (text_of fs)
text_low [] h = none_low
text_low (f ∷ fs) h = All-append (λ b. b < 128) (line_of (form_tokens f)) (text_of fs)
    (line_low (form_tokens f) (form_written f h.0)) (text_low fs h.1)

pub text_is_utf8 : (fs : List PlainForm) → AllOf IsSoundForm fs → IsUtf8 (text_of fs)
text_is_utf8 fs h = IsUtf8-from_ascii (text_of fs) (IsAscii-from_all (text_of fs) (text_low fs h))
