-- No word is declared twice: the words of domains and of names together are those of the
-- declarations, in another order.
use Rattle.std.proofs.Common.{◌≡◌, ℕ, Bool, true, false, not, ◌||◌, ◌&&◌, List, [], ◌∷◌, ◌++◌}
use Rattle.std.proofs.Common.{append-nil, append_assoc, filter_map, Option, Some, None, refl, sym}
use Rattle.std.proofs.Common.{ap, ap₂, subst, ◌∙◌}
use Rattle.std.specs.List.{list_any, cons_option}
use Rattle.std.specs.Str.{bytes_eq}
use Rattle.std.proofs.lemmas.List.Elements.{filter_map-append}
use Rattle.ground_types.specs.Sound.{is_distinct}
use Rattle.rule_forms.specs.Forms.{PlainForm, PlainStatement, Domain, Input, Simple, Static}
use Rattle.rule_forms.specs.Forms.{Derived}
use Rattle.ground_types.specs.Words.{has, domain_words, name_words}
use Rattle.domain_decl.specs.Contents.{domains_of, names_of}
use Rattle.domain_decl.specs.Declarations.{declares, is_declared_before, declaration_fault}
use Rattle.word_table.proofs.WordLists.{bytes_eq-swap, is_distinct-push}
use Rattle.domain_decl.proofs.Passed.{AllPass, passed}

-- the words that statements declare, in the order of the text
abbrev pub words_in : List PlainStatement → List (List ℕ)
words_in ss = filter_map (λ s. declares s.form) ss

push_option : (words : List (List ℕ)) (o : Option (List ℕ)) → is_distinct words ≡ true
    → ((word : List ℕ) → o ≡ Some word → has words word ≡ false)
    → is_distinct (words ++ cons_option o []) ≡ true
push_option words None h f = ap is_distinct (append-nil words) ∙ h
push_option words (Some word) h f = is_distinct-push words word ∙ ap₂ (λ a b. a && not b) h
    (f word refl)

fresh_word : (before : List PlainStatement) (o : Option (List ℕ)) → is_declared_before before o
    ≡ false → (word : List ℕ) → o ≡ Some word → has (words_in before) word ≡ false
fresh_word before None h word e = absurd (cc)
fresh_word before (Some w) h word e = let same : w ≡ word = cc in
    subst (λ v. has (words_in before) v ≡ false) same h

pub words_distinct : (all before ss : List PlainStatement) → AllPass (declaration_fault all) before
    ss → is_distinct (words_in before) ≡ true → is_distinct (words_in (before ++ ss)) ≡ true
words_distinct all before [] h e = ap (λ l. is_distinct (words_in l)) (append-nil before) ∙ e
words_distinct all before (s ∷ ss) h e =
    let next : is_distinct (words_in (before ++ s ∷ [])) ≡ true =
    ap is_distinct (filter_map-append (λ s. declares s.form) before (s ∷ []))
    ∙ push_option (words_in before) (declares s.form) e (fresh_word before (declares s.form)
    (passed all before s.form h.0).fresh) in
    ap (λ l. is_distinct (words_in l)) (sym (append_assoc before (s ∷ []) ss))
    ∙ words_distinct all (before ++ s ∷ []) ss h.1 next

-- ---- the words of domains, then those of names

swap_or : (a b c : Bool) → (a || (b || c)) ≡ (b || (a || c))
swap_or true true c = refl
swap_or true false c = refl
swap_or false b c = refl

any_insert : (p : List ℕ → Bool) (xs : List (List ℕ)) (word : List ℕ) (ys : List (List ℕ))
    → list_any p (xs ++ word ∷ ys) ≡ (p word || list_any p (xs ++ ys))
any_insert p [] word ys = refl
any_insert p (x ∷ xs) word ys = ap (λ b. p x || b) (any_insert p xs word ys)
    ∙ swap_or (p x) (p word) (list_any p (xs ++ ys))

insert_parts : (a b c d : Bool) → (not (a || b) && (not c && d)) ≡ (not (a || c) && (not b && d))
insert_parts true b c d = refl
insert_parts false true true d = refl
insert_parts false true false d = refl
insert_parts false false true d = refl
insert_parts false false false d = refl

is_distinct-insert : (xs : List (List ℕ)) (word : List ℕ) (ys : List (List ℕ))
    → is_distinct (xs ++ word ∷ ys) ≡ (not (list_any (bytes_eq word) (xs ++ ys))
    && is_distinct (xs ++ ys))
is_distinct-insert [] word ys = refl
is_distinct-insert (x ∷ xs) word ys =
    ap₂ (λ others rest. not others && rest) (any_insert (bytes_eq x) xs word ys)
    (is_distinct-insert xs word ys)
    ∙ insert_parts (bytes_eq x word) (list_any (bytes_eq x) (xs ++ ys))
    (list_any (bytes_eq word) (xs ++ ys)) (is_distinct (xs ++ ys))
    ∙ ap (λ b. not (b || list_any (bytes_eq word) (xs ++ ys))
    && (not (list_any (bytes_eq x) (xs ++ ys)) && is_distinct (xs ++ ys))) (bytes_eq-swap x word)

module _ (domains : List (List ℕ)) where
  abbrev pub apart : List PlainStatement → List (List ℕ)
  apart ss = domain_words (domains_of ss) ++ name_words (names_of domains ss)

  any_apart_by : (p : List ℕ → Bool) (form : PlainForm) (line : ℕ) (ss : List PlainStatement)
      → list_any p (apart ss) ≡ list_any p (words_in ss)
      → list_any p (apart (record { line = line; form = form } ∷ ss))
      ≡ list_any p (words_in (record { line = line; form = form } ∷ ss))
  any_apart_by p (Domain name entities) line ss h = ap (λ b. p name || b) h
  any_apart_by p (Input decl) line ss h = any_insert p (domain_words (domains_of ss)) decl.name
      (name_words (names_of domains ss)) ∙ ap (λ b. p decl.name || b) h
  any_apart_by p (Simple decl values) line ss h = any_insert p (domain_words (domains_of ss))
      decl.name (name_words (names_of domains ss)) ∙ ap (λ b. p decl.name || b) h
  any_apart_by p (Static decl values) line ss h = any_insert p (domain_words (domains_of ss))
      decl.name (name_words (names_of domains ss)) ∙ ap (λ b. p decl.name || b) h
  any_apart_by p (Derived decl) line ss h = any_insert p (domain_words (domains_of ss)) decl.name
      (name_words (names_of domains ss)) ∙ ap (λ b. p decl.name || b) h
  any_apart_by p form line ss h = h

  any_apart : (p : List ℕ → Bool) (ss : List PlainStatement) → list_any p (apart ss)
      ≡ list_any p (words_in ss)
  any_apart p [] = refl
  any_apart p (s ∷ ss) = any_apart_by p s.form s.line ss (any_apart p ss)

  with_word : (word : List ℕ) (ss : List PlainStatement) → is_distinct (apart ss)
      ≡ is_distinct (words_in ss)
      → (not (list_any (bytes_eq word) (apart ss)) && is_distinct (apart ss))
      ≡ is_distinct (word ∷ words_in ss)
  with_word word ss h = ap₂ (λ others rest. not others && rest) (any_apart (bytes_eq word) ss) h

  with_name : (word : List ℕ) (ss : List PlainStatement) → is_distinct (apart ss)
      ≡ is_distinct (words_in ss)
      → is_distinct (domain_words (domains_of ss) ++ word ∷ name_words (names_of domains ss))
      ≡ is_distinct (word ∷ words_in ss)
  with_name word ss h = is_distinct-insert (domain_words (domains_of ss)) word
      (name_words (names_of domains ss)) ∙ with_word word ss h

  distinct_apart_by : (form : PlainForm) (line : ℕ) (ss : List PlainStatement)
      → is_distinct (apart ss) ≡ is_distinct (words_in ss)
      → is_distinct (apart (record { line = line; form = form } ∷ ss))
      ≡ is_distinct (words_in (record { line = line; form = form } ∷ ss))
  distinct_apart_by (Domain name entities) line ss h = with_word name ss h
  distinct_apart_by (Input decl) line ss h = with_name decl.name ss h
  distinct_apart_by (Simple decl values) line ss h = with_name decl.name ss h
  distinct_apart_by (Static decl values) line ss h = with_name decl.name ss h
  distinct_apart_by (Derived decl) line ss h = with_name decl.name ss h
  distinct_apart_by form line ss h = h

  pub distinct_apart : (ss : List PlainStatement) → is_distinct (apart ss)
      ≡ is_distinct (words_in ss)
  distinct_apart [] = refl
  distinct_apart (s ∷ ss) = distinct_apart_by s.form s.line ss (distinct_apart ss)

-- no word is declared twice
pub declared_distinct : (all : List PlainStatement) → AllPass (declaration_fault all) [] all
    → (domains : List (List ℕ)) → is_distinct (apart domains all) ≡ true
declared_distinct all h domains = distinct_apart domains all ∙ words_distinct all [] all h refl
