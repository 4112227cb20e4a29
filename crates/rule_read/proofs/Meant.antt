-- What a text reads as is what the grammar says of it, and nothing else is.
use Rattle.std.proofs.Common.{◌≡◌, ℕ, ◌≤◌, ◌<◌, Bool, true, false, cond, nat_lt, List, [], ◌∷◌}
use Rattle.std.proofs.Common.{◌++◌, length, Option, Some, None, refl, sym, ap, subst, ◌∙◌, arith}
use Rattle.std.proofs.lemmas.Bool.Decides.{nat_tests}
use Rattle.rule_read.specs.Sentences.{Sentence, sentences_of, bad_byte_of}
use Rattle.rule_forms.specs.Forms.{PlainForm}
use Rattle.rule_forms.specs.Sound.{AllOf}
use Rattle.rule_read.specs.Grammar.{HasSomeForm}
use Rattle.rule_read.specs.Whole.{Reading, TooLong, BadByte, BadStatement, Statements, Means}
use Rattle.rule_read.specs.Whole.{formed, forms_of, after_form, unless_bad, reading, longest}
use Rattle.rule_read.proofs.Wholes.{reads_too_long, reads_bad, reads_forms}
use Rattle.rule_read.proofs.Spelled.{formed_has, has_formed, forms_spelled, forms_unformed}
use Rattle.rule_read.proofs.Spelled.{reading_of_spelled}

-- ---- statements are read, or one has no form

abbrev IsOfForms : Reading → Type 0
IsOfForms TooLong = ⊥
IsOfForms (BadByte line) = ⊥
IsOfForms (BadStatement line) = Unit {0}
IsOfForms (Statements xs) = Unit {0}

of_forms_behind : (o : Option PlainForm) (line : ℕ) (others : Reading) → IsOfForms others
    → IsOfForms (after_form o line others)
of_forms_behind None line others h = tt
of_forms_behind (Some f) line (BadStatement n) h = tt
of_forms_behind (Some f) line (Statements xs) h = tt
of_forms_behind (Some f) line TooLong h = absurd h
of_forms_behind (Some f) line (BadByte n) h = absurd h

of_forms : (ss : List Sentence) → IsOfForms (forms_of ss)
unfolding forms_of
of_forms [] = tt
of_forms (s ∷ ss) = of_forms_behind (formed s) s.line (forms_of ss) (of_forms ss)

-- ---- what is read is meant

by_forms : (text : List ℕ) → length text ≤ longest → bad_byte_of text ≡ None → (r : Reading)
    → forms_of (sentences_of text) ≡ r → Means text r
by_forms text fits fine (Statements xs) e =
    (fits, record { bytes = fine; statements_are = forms_spelled (sentences_of text) xs e })
by_forms text fits fine (BadStatement line) e =
    (fits, fine, forms_unformed (sentences_of text) line e)
by_forms text fits fine TooLong e = absurd (subst IsOfForms e (of_forms (sentences_of text)))
by_forms text fits fine (BadByte line) e = absurd (subst IsOfForms e (of_forms (sentences_of text)))

by_bad : (text : List ℕ) → length text ≤ longest → (o : Option ℕ) → bad_byte_of text ≡ o
    → Means text (unless_bad o (forms_of (sentences_of text)))
by_bad text fits None fine = by_forms text fits fine (forms_of (sentences_of text)) refl
by_bad text fits (Some line) bad = (fits, bad)

by_length : (text : List ℕ) (long : Bool) → nat_lt longest (length text) ≡ long
    → Means text (cond long TooLong (unless_bad (bad_byte_of text) (forms_of (sentences_of text))))
by_length text true e = let more : longest < length text = grind (arith, nat_tests) in more
by_length text false e = by_bad text (grind (arith, nat_tests)) (bad_byte_of text) refl

pub reading_means : (text : List ℕ) → Means text (reading text)
reading_means text = by_length text (nat_lt longest (length text)) refl

-- ---- what is meant is read

formed_none : (s : Sentence) → (HasSomeForm s → ⊥) → formed s ≡ None
formed_none s none = by_form (formed s) refl
  where
    by_form : (o : Option PlainForm) → formed s ≡ o → formed s ≡ None
    by_form None e = e
    by_form (Some f) e = absurd (none (f, formed_has s f e))

unformed_behind : (before : List Sentence) (s : Sentence) (behind : List Sentence)
    → AllOf HasSomeForm before → (HasSomeForm s → ⊥)
    → forms_of (before ++ (s ∷ behind)) ≡ BadStatement s.line
unfolding forms_of
unformed_behind [] s behind h none = rw (formed_none s none) refl
unformed_behind (b ∷ before) s behind h none = rw (
  has_formed b h.0.0 h.0.1,
  unformed_behind before
      s behind h.1 none,
) refl

pub meaning_is_read : (text : List ℕ) (r : Reading) → Means text r → reading text ≡ r
meaning_is_read text TooLong h = reads_too_long text h
meaning_is_read text (BadByte line) h = reads_bad text line h.0 h.1
meaning_is_read text (BadStatement line) h =
    let first = h.2 in
    reads_forms text h.0 h.1 ∙ ap forms_of first.are ∙ unformed_behind first.before first.unformed
    first.behind first.formed_before first.none
    ∙ ap BadStatement (sym first.line_is)
meaning_is_read text (Statements xs) h = reading_of_spelled text xs h.0 h.1
