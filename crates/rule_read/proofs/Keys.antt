-- Reserved words in front of a part.
use Rattle.std.proofs.Common.{◌≡◌, ℕ, Bool, true, false, ◌&&◌, ◌||◌, cond, List, [], ◌∷◌, ◌++◌, map}
use Rattle.std.proofs.Common.{Option, Some, None, refl, sym, ap, ◌∙◌, arith}
use Rattle.std.specs.Prelude.{find, not}
use Rattle.std.specs.Str.{bytes_eq}
use Rattle.std.specs.List.{list_any}
use Rattle.std.specs.Char.{is_ascii_lowercase}
use Rattle.std.proofs.lemmas.Slice.Eq.{bytes_eq-Decides}
use Rattle.std.proofs.lemmas.Bool.Decides.{nat_tests}
use Rattle.rt_base.specs.Kinds.{is_word, is_name, is_constant, is_reserved}
use Rattle.rule_read.specs.declared.keyword.Keyword.{Keyword}
use Rattle.rule_read.specs.declared.keyword.Keyword.TheVariants as key
use Rattle.rule_read.specs.Tokens.{Token, Word, Sign}
use Rattle.rule_read.specs.Words.{spelled, keywords, keyword_of}
use Rattle.rule_forms.specs.Sound.{is_variable}
use Rattle.rule_read.specs.FormTokens.{keyword}
use Rattle.rule_read.specs.Reading.{Part, mapped, key_at, tail}
use Rattle.rule_read.proofs.Tools.{bind_with, At, Takes, finish, some_is}

found_is : (w : List ℕ) (ks : List Keyword) (k : Keyword) → find (λ k. bytes_eq (spelled k) w) ks
    ≡ Some k → spelled k ≡ w
found_is w [] k e = absurd cc
found_is w (j ∷ ks) k e = of_test (found_is w ks k) (bytes_eq (spelled j) w) refl e
  where
    of_test : (find (λ k. bytes_eq (spelled k) w) ks ≡ Some k → spelled k ≡ w) → (b : Bool)
        → bytes_eq (spelled j) w ≡ b
        → cond b (Some j) (find (λ k. bytes_eq (spelled k) w) ks) ≡ Some k → spelled k ≡ w
    of_test later true h e = ap spelled (sym (some_is e)) ∙ (bytes_eq-Decides (spelled j) w).0 h
    of_test later false h e = later e

pub key_takes : (ts : List Token) (k : Keyword) → key_at ts ≡ Some k → ts ≡ keyword k ∷ tail ts
unfolding keyword_of
key_takes [] k e = absurd cc
key_takes (Sign m ∷ ts) k e = absurd cc
key_takes (Word w ∷ ts) k e = ap (λ v. Word v ∷ ts) (sym (found_is w keywords k e))

pub key_again : (k : Keyword) → keyword_of (spelled k) ≡ Some k
unfolding keyword_of
key_again key.Window = refl
key_again key.Step = refl
key_again key.From = refl
key_again key.Queries = refl
key_again key.Domain = refl
key_again key.Input = refl
key_again key.Simple = refl
key_again key.Static = refl
key_again key.Derived = refl
key_again key.Initially = refl
key_again key.InitiatedAt = refl
key_again key.TerminatedAt = refl
key_again key.HappensAt = refl
key_again key.HoldsAt = refl
key_again key.HoldsFor = refl
key_again key.Start = refl
key_again key.End = refl
key_again key.Not = refl
key_again key.UnionAll = refl
key_again key.IntersectAll = refl
key_again key.RelativeComplementAll = refl
key_again key.Expires = refl

-- ---- names and variables are not reserved

none_found : (w : List ℕ) (ks : List Keyword) → list_any (λ r. bytes_eq r w) (map spelled ks)
    ≡ false → find (λ k. bytes_eq (spelled k) w) ks ≡ None
none_found w [] e = refl
none_found w (j ∷ ks) e = of_test (none_found w ks) (bytes_eq (spelled j) w) refl e
  where
    of_test : (list_any (λ r. bytes_eq r w) (map spelled ks) ≡ false
        → find (λ k. bytes_eq (spelled k) w) ks ≡ None) → (b : Bool)
        → bytes_eq (spelled j) w ≡ b → (b || list_any (λ r. bytes_eq r w) (map spelled ks)) ≡ false
        → cond b (Some j) (find (λ k. bytes_eq (spelled k) w) ks) ≡ None
    of_test later true h e = absurd cc
    of_test later false h e = later e

second_false : (a b : Bool) → (a && not b) ≡ true → b ≡ false
second_false true true e = absurd cc
second_false true false e = refl
second_false false b e = absurd cc

pub name_free : (w : List ℕ) → is_name w ≡ true → keyword_of w ≡ None
unfolding keyword_of
name_free w h = none_found w keywords (second_false (is_word is_ascii_lowercase w) (is_reserved w)
    h)

no_variable : (k : Keyword) → is_variable (spelled k) ≡ false
no_variable key.Window = refl
no_variable key.Step = refl
no_variable key.From = refl
no_variable key.Queries = refl
no_variable key.Domain = refl
no_variable key.Input = refl
no_variable key.Simple = refl
no_variable key.Static = refl
no_variable key.Derived = refl
no_variable key.Initially = refl
no_variable key.InitiatedAt = refl
no_variable key.TerminatedAt = refl
no_variable key.HappensAt = refl
no_variable key.HoldsAt = refl
no_variable key.HoldsFor = refl
no_variable key.Start = refl
no_variable key.End = refl
no_variable key.Not = refl
no_variable key.UnionAll = refl
no_variable key.IntersectAll = refl
no_variable key.RelativeComplementAll = refl
no_variable key.Expires = refl

pub variable_free : (w : List ℕ) → is_variable w ≡ true → keyword_of w ≡ None
unfolding keyword_of
variable_free w h = of_key (keyword_of w) refl
  where
    of_key : (o : Option Keyword) → keyword_of w ≡ o → keyword_of w ≡ None
    of_key None e = e
    of_key (Some k) e =
        let same : spelled k ≡ w = found_is w keywords k e in let is : is_variable (spelled k)
        ≡ true = ap is_variable same
        ∙ h in let no : is_variable (spelled k) ≡ false = no_variable k in absurd cc

pub variable_no_constant : (w : List ℕ) → is_variable w ≡ true → is_constant w ≡ false
variable_no_constant [] h = absurd (grind (arith, nat_tests))
variable_no_constant (b ∷ bs) h = grind (arith, nat_tests)

-- ---- a part behind a reserved word

pub keyed : (ts p rest : List Token) (k : Keyword) → key_at ts ≡ Some k → tail ts ≡ p ++ rest
    → ts ≡ (keyword k ∷ p) ++ rest
keyed ts p rest k h e = key_takes ts k h ∙ ap (λ (t : List Token). keyword k ∷ t) e

pub keyed_takes : {A B : Type 0} (f : A → B) (k : Keyword) (toks : A → List Token) (Sound : A
    → Type 0) (at : Part A) → Takes toks Sound at
    → (toks' : B → List Token) (Sound' : B → Type 0)
    → ((x : A) → keyword k ∷ toks x ≡ toks' (f x)) → ((x : A) → Sound x → Sound' (f x))
    → (ts : List Token) (y : B × List Token) → key_at ts ≡ Some k → mapped f at (tail ts) ≡ Some y
    → At toks' Sound' ts y
unfolding mapped
keyed_takes f k toks Sound at takes toks' Sound' same sound ts y h e =
    bind_with e (λ x ex e1.
    let t = takes (tail ts) x ex in
    finish toks' Sound' ts e1 (
      keyed ts (toks x.0) x.1 k h t.0 ∙ ap (λ (p : List Token). p ++ x.1)
          (same x.0),
      sound x.0 t.1,
    ))
