-- A text reads as the statements that it spells, and as no others.
use Rattle.std.proofs.Common.{◌≡◌, ℕ, ◌≤◌, ◌<◌, ◌^◌, Bool, true, false, cond, List, [], ◌∷◌, length}
use Rattle.std.proofs.Common.{map, Option, Some, None, Ok, Err, refl, sym, ap, subst, ◌∙◌, arith}
use Rattle.std.specs.Global.{Vec}
use Rattle.rule_forms.specs.declared.syntax.Statement.{Statement}
use Rattle.rule_forms.specs.declared.syntax.Syntax.{Syntax}
use Rattle.rule_read.specs.declared.refused.ReadRefused.{ReadRefused}
use Rattle.rule_read.specs.declared.refused.ReadRefused.TheVariants as refused
use Rattle.rule_read.specs.Sentences.{Sentence, sentences_of}
use Rattle.rule_forms.specs.Forms.{PlainForm, PlainStatement, plain}
use Rattle.rule_forms.specs.Sound.{AllOf, IsSoundStatement, IsSound}
use Rattle.rule_read.specs.Grammar.{HasForm, HasSomeForm, SpellEach, Spells, IsFirstUnformed}
use Rattle.rule_read.specs.Reading.{form_of}
use Rattle.rule_read.specs.Whole.{Reading, TooLong, BadByte, BadStatement, Statements, formed}
use Rattle.rule_read.specs.Whole.{forms_of, after_form, reading, longest}
use Rattle.rule_read.specs.Stated.{States}
use Rattle.rule_read.proofs.Formed.{form_found, form_only}
use Rattle.rule_read.proofs.Wholes.{reads_forms}

-- ---- one statement

whole_form : (b : Bool) (o : Option PlainForm) (f : PlainForm) → cond b o None ≡ Some f
    → (b ≡ true) × (o ≡ Some f)
whole_form true o f e = (refl, e)
whole_form false o f e = absurd cc

pub formed_has : (s : Sentence) (f : PlainForm) → formed s ≡ Some f → HasForm s f
formed_has s f e = let w = whole_form s.whole (form_of s.tokens) f e in let found =
    form_found s.tokens f w.1 in (w.0, found.0, found.1)

pub has_formed : (s : Sentence) (f : PlainForm) → HasForm s f → formed s ≡ Some f
has_formed s f h = rw h.0 (form_only s.tokens f h.1 h.2)

not_formed : (s : Sentence) → formed s ≡ None → HasSomeForm s → ⊥
not_formed s e has = let is : formed s ≡ Some has.0 = has_formed s has.0 has.1 in absurd cc

-- ---- statements one after the other

said_is : {xs ys : List PlainStatement} → Statements xs ≡ Statements ys → xs ≡ ys
said_is e = cc

line_is : {m n : ℕ} → BadStatement m ≡ BadStatement n → m ≡ n
line_is e = cc

-- What is read is spelled so.
pub forms_spelled : (ss : List Sentence) (xs : List PlainStatement) → forms_of ss ≡ Statements xs
    → SpellEach ss xs
unfolding forms_of
forms_spelled [] xs e = subst (SpellEach []) (said_is e) tt
forms_spelled (s ∷ ss) xs e = by_form (λ ys h. forms_spelled ss ys h) (formed s) refl (forms_of ss)
    refl e
  where
    by_form : ((ys : List PlainStatement) → forms_of ss ≡ Statements ys → SpellEach ss ys)
        → (o : Option PlainForm) → formed s ≡ o → (others : Reading)
        → forms_of ss ≡ others → after_form o s.line others ≡ Statements xs → SpellEach (s ∷ ss) xs
    by_form later (Some f) h (Statements ys) hs e = subst (SpellEach (s ∷ ss)) (said_is e)
        ((refl, formed_has s f h), later ys hs)
    by_form later (Some f) h TooLong hs e = absurd cc
    by_form later (Some f) h (BadByte line) hs e = absurd cc
    by_form later (Some f) h (BadStatement line) hs e = absurd cc
    by_form later None h others hs e = absurd cc

-- Where nothing is read, the first statement without a form is on that line.
pub forms_unformed : (ss : List Sentence) (line : ℕ) → forms_of ss ≡ BadStatement line
    → IsFirstUnformed ss line
unfolding forms_of
forms_unformed [] line e = absurd cc
forms_unformed (s ∷ ss) line e = by_form (λ n h. forms_unformed ss n h) (formed s) refl
    (forms_of ss) refl e
  where
    by_form : ((n : ℕ) → forms_of ss ≡ BadStatement n → IsFirstUnformed ss n)
        → (o : Option PlainForm) → formed s ≡ o → (others : Reading)
        → forms_of ss ≡ others → after_form o s.line others ≡ BadStatement line
        → IsFirstUnformed (s ∷ ss) line
    by_form later None h others hs e = record {
      before = [];
      unformed = s;
      behind = ss;
      are = refl;
      formed_before = tt;
      none = not_formed s h;
      line_is = sym (line_is e);
    }
    by_form later (Some f) h (BadStatement n) hs e =
        let first = later n hs in
        record {
          before = s ∷ first.before;
          unformed = first.unformed;
          behind = first.behind;
          are = ap (λ (t : List Sentence). s ∷ t) first.are;
          formed_before = ((f, formed_has s f h), first.formed_before);
          none = first.none;
          line_is = sym (line_is e) ∙ first.line_is;
        }
    by_form later (Some f) h (Statements ys) hs e = absurd cc
    by_form later (Some f) h TooLong hs e = absurd cc
    by_form later (Some f) h (BadByte n) hs e = absurd cc

-- What is spelled so is read.
pub spelled_forms : (ss : List Sentence) (xs : List PlainStatement) → SpellEach ss xs
    → forms_of ss ≡ Statements xs
unfolding forms_of
spelled_forms [] [] h = refl
spelled_forms [] (x ∷ xs) h = absurd h
spelled_forms (s ∷ ss) [] h = absurd h
spelled_forms (s ∷ ss) (x ∷ xs) h =
    rw (has_formed s x.form h.0.1, spelled_forms ss xs h.1)
    (ap (λ line. Statements (record { line = line; form = x.form } ∷ xs)) (sym h.0.0))

-- ---- a text

pub reading_of_spelled : (text : List ℕ) (xs : List PlainStatement) → length text ≤ longest
    → Spells text xs → reading text ≡ Statements xs
reading_of_spelled text xs h spells = reads_forms text h spells.bytes
    ∙ spelled_forms (sentences_of text) xs spells.statements_are

pub one_reading : (text : List ℕ) (xs ys : List PlainStatement) → Spells text xs → Spells text ys
    → xs ≡ ys
one_reading text xs ys h g =
    said_is (sym (spelled_forms (sentences_of text) xs h.statements_are)
    ∙ spelled_forms (sentences_of text) ys g.statements_are)

pub stated_spelled : (text : List ℕ) (found : Vec Statement) → States text (Ok found)
    → Spells text (map plain found.items)
stated_spelled text found h = record {
  bytes = h.0;
  statements_are =
      forms_spelled (sentences_of text) (map plain found.items) h.1;
}

each_sound : (ss : List Sentence) (xs : List Statement) → SpellEach ss (map plain xs)
    → AllOf IsSoundStatement xs
each_sound ss [] h = tt
each_sound [] (x ∷ xs) h = absurd h
each_sound (s ∷ ss) (x ∷ xs) h = (h.0.1.2, each_sound ss xs h.1)

pub stated_sound : (text : List ℕ) (found : Vec Statement) (syntax : Syntax)
    → length text ≤ longest → States text (Ok found)
    → syntax.statements ≡ found.items → IsSound syntax
stated_sound text found syntax h states same =
    let forms : AllOf IsSoundStatement found.items = each_sound (sentences_of text) found.items
    (stated_spelled text found states).statements_are in
    let few : length found.items < 2 ^ 32 = omega (arith, h, states.2) in
    record {
      few = subst (λ (t : List Statement). length t < 2 ^ 32) (sym same) few;
      forms = subst (AllOf IsSoundStatement) (sym same) forms;
    }

pub stated_unformed : (text : List ℕ) (e : ReadRefused) (line : ℕ) → States text (Err e)
    → e ≡ refused.BadStatement line
    → IsFirstUnformed (sentences_of text) line
stated_unformed text refused.TooLong line states e = absurd cc
stated_unformed text (refused.BadByte n) line states e = absurd cc
stated_unformed text (refused.BadStatement n) line states e =
    let same : n ≡ line = cc in subst (IsFirstUnformed (sentences_of text)) same
    (forms_unformed (sentences_of text) n states.1)
stated_unformed text refused.OutOfMemory line states e = absurd cc
