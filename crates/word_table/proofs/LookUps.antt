-- Words that are looked up, and names by the places of their words.
use Rattle.std.proofs.Common.{◌≡◌, ℕ, zero, suc, ◌+◌, nat_lt, Bool, true, false, true≢false, not}
use Rattle.std.proofs.Common.{cond, ◌||◌, ◌&&◌, List, [], ◌∷◌, ◌++◌, length, map, get_or, Option}
use Rattle.std.proofs.Common.{Some, None, refl, sym, ap, ap₂, ◌∙◌, arith, if◌then◌else◌}
use Rattle.std.proofs.Common.{option_map}
use Rattle.std.proofs.lemmas.Bool.Decides.{nat_tests}
use Rattle.std.proofs.lemmas.List.{length-map}
use Rattle.std.proofs.lemmas.List.Folds.{list_any-append, find_at}
use Rattle.std.proofs.lemmas.List.Quantifiers.{position-Some}
use Rattle.std.proofs.lemmas.Option.{cond_some, none-some, slice_get_past, slice_get_within}
use Rattle.std.proofs.lemmas.Option.{slice_get-get_or, slice_get-map}
use Rattle.std.proofs.lemmas.Slice.Eq.{bytes_eq-Decides}
use Rattle.std.specs.List.{list_any, position_or_len, slice_get}
use Rattle.std.specs.Str.{bytes_eq}
use Rattle.ground_types.specs.declared.program.Name.{Name}
use Rattle.ground_types.specs.Sound.{is_distinct}
use Rattle.ground_types.specs.Words.{has, place_in, name_words, declaration}
use Rattle.ground_types.proofs.Members.{and_right}
use Rattle.word_table.specs.Sets.{HaveSame, IsSetOf}
use Rattle.word_table.proofs.WordLists.{has_put, is_distinct-push, is_distinct-front}

module _ {X : Type 0} (word_of : X → List ℕ) (word : List ℕ) where
  -- a word stands in the list of the words of some items where one of them has it
  pub has_of_items : (xs : List X) → list_any (λ x. bytes_eq (word_of x) word) xs
      ≡ has (map word_of xs) word
  has_of_items [] = refl
  has_of_items (x ∷ xs) = ap (λ b. bytes_eq (word_of x) word || b) (has_of_items xs)

  pub place_of_items : (xs : List X) → position_or_len (λ x. bytes_eq (word_of x) word) xs
      ≡ position_or_len (λ other. bytes_eq other word) (map word_of xs)
  place_of_items [] = refl
  place_of_items (x ∷ xs) = ap (λ n. cond (not (bytes_eq (word_of x) word)) (1 + n) 0)
      (place_of_items xs)

none_by_cond : (b : Bool) (n : ℕ) → cond b (Some n) None ≡ None → b ≡ false
none_by_cond true n e = absurd (none-some n (sym e))
none_by_cond false n e = refl

module _ (names : List Name) (word : List ℕ) where
  pub declaration_at_place : declaration names word ≡ slice_get names
      (position_or_len (λ other. bytes_eq other word) (name_words names))
  declaration_at_place = find_at (λ name. bytes_eq name.word word) names
      ∙ ap (slice_get names) (place_of_items (λ name. name.word) word names)

  -- a name is declared at the place of its word
  pub declaration_by_place : (i : ℕ) → place_in (name_words names) word ≡ Some i
      → declaration names word ≡ slice_get names i
  declaration_by_place i e =
      declaration_at_place ∙ ap (slice_get names)
      (cond_some (nat_lt (position_or_len (λ other. bytes_eq other word) (name_words names))
      (length (name_words names))) _ i e).1

  pub no_declaration_by_place : place_in (name_words names) word ≡ None → declaration names word
      ≡ None
  no_declaration_by_place e =
      let out = none_by_cond (nat_lt (position_or_len (λ other. bytes_eq other word)
      (name_words names)) (length (name_words names))) _ e in
      let same = length-map names (λ name. name.word) in
      declaration_at_place ∙ slice_get_past names _ (grind (arith, out, same))

-- ---- sets of words

-- a set in which a word was put has the words up to that word where it had those before it
one_more_same : (set now words : List (List ℕ)) (w : List ℕ) (added : Bool)
    → added ≡ not (has set w) → now ≡ (if added then set ++ w ∷ [] else set) → HaveSame set words
    → HaveSame now (words ++ w ∷ [])
one_more_same set now words w added test put same =
    λ word. has_put set now w added test put word ∙ ap (λ b. b || (bytes_eq w word || false))
    (same word) ∙ sym (list_any-append (λ o. bytes_eq o word) words (w ∷ []))

-- no word stands in it twice
one_more_once : (set now : List (List ℕ)) (w : List ℕ) (added : Bool) → added ≡ not (has set w)
    → now ≡ (if added then set ++ w ∷ [] else set) → is_distinct set ≡ true
    → is_distinct now ≡ true
one_more_once set now w true test put once = ap is_distinct put ∙ is_distinct-push set w
    ∙ ap₂ (λ a b. a && b) once (sym test)
one_more_once set now w false test put once = ap is_distinct put ∙ once

-- and where they are distinct, it is the list of them
one_more_distinct : (set now words : List (List ℕ)) (w : List ℕ) (added : Bool)
    → added ≡ not (has set w) → now ≡ (if added then set ++ w ∷ [] else set)
    → (is_distinct words ≡ true → set ≡ words) → is_distinct (words ++ w ∷ []) ≡ true
    → now ≡ words ++ w ∷ []
one_more_distinct set now words w added test put held h =
    let e : set ≡ words = held (is_distinct-front words (w ∷ []) h) in
    let unseen : not (has words w) ≡ true = and_right (is_distinct words) (not (has words w))
    (sym (is_distinct-push words w) ∙ h) in
    let new : added ≡ true = test ∙ ap (λ l. not (has l w)) e ∙ unseen in
    put ∙ ap (λ b. if b then set ++ w ∷ [] else set) new ∙ ap (λ l. l ++ w ∷ []) e

pub one_more : (set now words : List (List ℕ)) (w : List ℕ) (added : Bool)
    → added ≡ not (has set w) → now ≡ (if added then set ++ w ∷ [] else set) → IsSetOf set words
    → IsSetOf now (words ++ w ∷ [])
one_more set now words w added test put held = record {
  once = one_more_once set now w added test put held.once;
  same = one_more_same set now words w added test put held.same;
  distinct = one_more_distinct set now words w added test put held.distinct;
}

-- ---- words of two lists

or_swap : (a b : Bool) → (a || b) ≡ (b || a)
or_swap true true = refl
or_swap true false = refl
or_swap false true = refl
or_swap false false = refl

pub has_either : (words others : List (List ℕ)) (word : List ℕ) → has (words ++ others) word
    ≡ (has others word || has words word)
has_either words others word = list_any-append (λ o. bytes_eq o word) words others
    ∙ or_swap (has words word) (has others word)

pub is_distinct-back : (words others : List (List ℕ)) → is_distinct (words ++ others) ≡ true
    → is_distinct others ≡ true
is_distinct-back [] others e = e
is_distinct-back (w ∷ ws) others e = is_distinct-back ws others
    (and_right (not (list_any (bytes_eq w) (ws ++ others))) _ e)

-- ---- places of words

pub same_word : (a b : List ℕ) → bytes_eq a b ≡ true → a ≡ b
same_word a b e = (bytes_eq-Decides a b).0 e

pub equal_word : (a b : List ℕ) → a ≡ b → bytes_eq a b ≡ true
equal_word a b e = (bytes_eq-Decides a b).1 e

any_at : (q : List ℕ → Bool) (xs : List (List ℕ)) (k : ℕ) (w : List ℕ) → slice_get xs k ≡ Some w
    → q w ≡ true → list_any q xs ≡ true
any_at q [] k w e t = absurd (cc)
any_at q (x ∷ xs) zero w e t = let same : x ≡ w = cc in ap (λ b. b || list_any q xs) (ap q same ∙ t)
any_at q (x ∷ xs) (suc k) w e t = or_true (q x) (list_any q xs) (any_at q xs k w e t)
  where
    or_true : (a b : Bool) → b ≡ true → (a || b) ≡ true
    or_true true b e = refl
    or_true false b e = e

apart : (a b c : Bool) → (not a && b) ≡ true → c ≡ true → (c ≡ true → a ≡ true) → ⊥
apart true b c d e f = true≢false (sym d)
apart false b c d e f = true≢false (sym (f e))

first_place : (words : List (List ℕ)) (k : ℕ) (w : List ℕ) → is_distinct words ≡ true
    → slice_get words k ≡ Some w → position_or_len (λ o. bytes_eq o w) words ≡ k
first_place [] k w d e = absurd (cc)
first_place (x ∷ xs) zero w d e = let same : x ≡ w = cc in
    ap (λ b. cond (not b) (1 + position_or_len (λ o. bytes_eq o w) xs) 0) (equal_word x w same)
first_place (x ∷ xs) (suc k) w d e =
    let rest : position_or_len (λ o. bytes_eq o w) xs ≡ k =
    first_place xs k w (and_right (not (list_any (bytes_eq x) xs)) (is_distinct xs) d) e in
    by (bytes_eq x w) refl ∙ ap suc rest
  where
    by : (b : Bool) → bytes_eq x w ≡ b → cond (not (bytes_eq x w))
        (1 + position_or_len (λ o. bytes_eq o w) xs) 0 ≡ suc (position_or_len (λ o. bytes_eq o w)
        xs)
    by true f = absurd (apart (list_any (bytes_eq x) xs) (is_distinct xs) (bytes_eq x w) d f
        (λ t. any_at (bytes_eq x) xs k w e t))
    by false f = ap (λ b. cond (not b) (1 + position_or_len (λ o. bytes_eq o w) xs) 0) f
        ∙ omega arith

-- a word of different ones is found at its place
pub place_here : (words : List (List ℕ)) (k : ℕ) (w : List ℕ) → is_distinct words ≡ true
    → slice_get words k ≡ Some w → place_in words w ≡ Some k
place_here words k w d e =
    let inside = slice_get_within words k w e in
    let lt : nat_lt k (length words) ≡ true = grind (arith, nat_tests) in
    ap (λ n. cond (nat_lt n (length words)) (Some n) None) (first_place words k w d e)
    ∙ ap (λ b. cond b (Some k) None) lt

-- and at its place a word stands
pub word_there : (words : List (List ℕ)) (k : ℕ) (w : List ℕ) → place_in words w ≡ Some k
    → slice_get words k ≡ Some w
word_there words k w e =
    let found = position-Some (λ o. bytes_eq o w) words k [] e in
    slice_get-get_or words k [] found.0 ∙ ap Some (same_word (get_or words k []) w found.1)

pub word_of_name : (names : List Name) (place : ℕ) (name : Name) → slice_get names place
    ≡ Some name → slice_get (name_words names) place ≡ Some name.word
word_of_name names place name e = slice_get-map (λ n. n.word) names place
    ∙ ap (option_map (λ n. n.word)) e
