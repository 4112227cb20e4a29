-- Words in lists, whichever way round they are compared.
use Rattle.std.proofs.Common.{◌≡◌, ℕ, ◌+◌, ◌<◌, nat_lt, Bool, true, false, true≢false, not, cond}
use Rattle.std.proofs.Common.{◌||◌, ◌&&◌, List, [], ◌∷◌, ◌++◌, length, map, take, drop, get_or}
use Rattle.std.proofs.Common.{position, Some, None, refl, sym, ap, ap₂, subst, ◌∙◌, arith}
use Rattle.std.proofs.Common.{if◌then◌else◌}
use Rattle.std.proofs.lemmas.List.{length-map, take_more, take-append-drop}
use Rattle.std.specs.List.{list_any, position_or_len}
use Rattle.std.specs.Str.{bytes_eq}
use Rattle.std.proofs.lemmas.Slice.Eq.{bytes_eq-Decides}
use Rattle.std.proofs.lemmas.List.Folds.{list_any-append}
use Rattle.ground_types.specs.Sound.{is_distinct}
use Rattle.ground_types.specs.Words.{has, place_in}

-- words are compared alike from both sides
pub bytes_eq-swap : (a b : List ℕ) → bytes_eq a b ≡ bytes_eq b a
bytes_eq-swap a b = grind (arith, bytes_eq-Decides a b, bytes_eq-Decides b a)

module _ {X : Type 0} (word_of : X → List ℕ) (word : List ℕ) where
  -- a word stands in the list of the words of some items where one of them is compared to it
  pub has_by_items : (xs : List X) → list_any (λ x. bytes_eq word (word_of x)) xs
      ≡ has (map word_of xs) word
  has_by_items [] = refl
  has_by_items (x ∷ xs) = ap₂ ◌||◌ (bytes_eq-swap word (word_of x)) (has_by_items xs)

  before_by_items : (xs : List X) → position_or_len (λ x. bytes_eq word (word_of x)) xs
      ≡ position_or_len (λ other. bytes_eq other word) (map word_of xs)
  before_by_items [] = refl
  before_by_items (x ∷ xs) = ap₂ (λ b n. cond (not b) (1 + n) 0) (bytes_eq-swap word (word_of x))
      (before_by_items xs)

  -- and it stands there at the same place
  pub place_by_items : (xs : List X) → position (λ x. bytes_eq word (word_of x)) xs
      ≡ place_in (map word_of xs) word
  place_by_items xs = ap₂ (λ n m. cond (nat_lt n m) (Some n) None) (before_by_items xs)
      (sym (length-map xs word_of))

-- ---- lists in which no word stands twice

push_parts : (a b c d : Bool) → (not (a || (b || false)) && (c && not d))
    ≡ ((not a && c) && not (b || d))
push_parts true b c d = refl
push_parts false true true d = refl
push_parts false true false d = refl
push_parts false false c d = refl

-- one more word stands there once where it did not stand there
pub is_distinct-push : (words : List (List ℕ)) (word : List ℕ) → is_distinct (words ++ word ∷ [])
    ≡ (is_distinct words && not (has words word))
is_distinct-push [] word = refl
is_distinct-push (w ∷ ws) word =
    ap₂ (λ others rest. not others && rest) (list_any-append (bytes_eq w) ws (word ∷ []))
    (is_distinct-push ws word)
    ∙ push_parts (list_any (bytes_eq w) ws) (bytes_eq w word) (is_distinct ws) (has ws word)

-- a beginning of such a list is one too
front_parts : (a b c d : Bool) → (not (a || b) && c) ≡ true → (c ≡ true → d ≡ true)
    → (not a && d) ≡ true
front_parts true b c d h f = h
front_parts false true c d h f = absurd (true≢false (sym h))
front_parts false false c d h f = f h

pub is_distinct-front : (words others : List (List ℕ)) → is_distinct (words ++ others) ≡ true
    → is_distinct words ≡ true
is_distinct-front [] others h = refl
is_distinct-front (w ∷ ws) others h =
    front_parts (list_any (bytes_eq w) ws) (list_any (bytes_eq w) others)
    (is_distinct (ws ++ others)) (is_distinct ws)
    (subst (λ any. (not any && is_distinct (ws ++ others)) ≡ true) (list_any-append (bytes_eq w) ws
    others) h)
    (is_distinct-front ws others)

-- a beginning, by its length
pub is_distinct-take : (words : List (List ℕ)) (i : ℕ) → is_distinct words ≡ true
    → is_distinct (take i words) ≡ true
is_distinct-take words i h = is_distinct-front (take i words) (drop i words)
    (subst (λ l. is_distinct l ≡ true) (sym (take-append-drop i words)) h)

module _ (words : List (List ℕ)) (i : ℕ) (word : List ℕ) (within : i < length words) (at : word
    ≡ get_or words i word) where
  -- the words up to the next
  pub take_next : take (i + 1) words ≡ take i words ++ word ∷ []
  take_next = take_more words i word within ∙ ap (λ w. take i words ++ w ∷ []) (sym at)

  -- none of them stands twice where that is so without the next, and it is none of them
  pub is_distinct-next : is_distinct (take (i + 1) words) ≡ (is_distinct (take i words)
      && not (has (take i words) word))
  is_distinct-next = ap is_distinct take_next ∙ is_distinct-push (take i words) word

  module _ (set now : List (List ℕ)) (added : Bool) (held : set ≡ take i words) (test : added
      ≡ not (has set word))
      (put : now ≡ (if added then set ++ word ∷ [] else set)) where
    -- the next word was put in
    pub put_next : added ≡ true → now ≡ take (i + 1) words
    put_next new = put ∙ ap (λ b. if b then set ++ word ∷ [] else set) new
        ∙ ap (λ l. l ++ word ∷ []) held ∙ sym take_next

    -- and the words up to it are distinct exactly then
    pub distinct_next : is_distinct (take i words) ≡ true → is_distinct (take (i + 1) words) ≡ added
    distinct_next h = is_distinct-next ∙ ap₂ (λ a b. a && not b) h
        (ap (λ l. has l word) (sym held)) ∙ sym test

    -- as it is where no word of the list stands twice
    pub put_distinct : is_distinct words ≡ true → now ≡ take (i + 1) words
    put_distinct h = put_next (sym (distinct_next (is_distinct-take words i h))
        ∙ is_distinct-take words (i + 1) h)

    -- and where it is not, a word of the list stands twice
    pub twice_next : is_distinct (take i words) ≡ true → added ≡ false → is_distinct words ≡ false
    twice_next h old = by (is_distinct words) refl
      where
        by : (b : Bool) → is_distinct words ≡ b → is_distinct words ≡ false
        by false e = e
        by true e = absurd (true≢false (sym (is_distinct-take words (i + 1) e) ∙ distinct_next h
            ∙ old))

-- ---- a set into which a word was put

or_same : (a b c : Bool) → (b ≡ true → a ≡ true) → c ≡ (b || false) → a ≡ (a || c)
or_same true b c f e = refl
or_same false true c f e = absurd (true≢false (sym (f refl)))
or_same false false c f e = sym e

module _ (set now : List (List ℕ)) (word : List ℕ) (added : Bool) (test : added
    ≡ not (has set word)) (put : now ≡ (if added then set ++ word ∷ [] else set)) where
  not_added : (b : Bool) → added ≡ b → (other : List ℕ)
      → has now other ≡ (has set other || (bytes_eq word other || false))
  not_added true e other = ap (λ l. has l other) (put ∙ ap (λ b. if b then set ++ word ∷ []
      else set) e) ∙ list_any-append (λ w. bytes_eq w other) set (word ∷ [])
  not_added false e other =
      ap (λ l. has l other) (put ∙ ap (λ b. if b then set ++ word ∷ [] else set) e)
      ∙ or_same (has set other) (bytes_eq word other) (bytes_eq word other || false)
      (λ same. subst (λ w. has set w ≡ true) ((bytes_eq-Decides word other).0 same) there) refl
    where
      there : has set word ≡ true
      there = grind (arith, test, e)

  -- what is in a set into which a word was put
  pub has_put : (other : List ℕ) → has now other ≡ (has set other || (bytes_eq word other || false))
  has_put = not_added added refl
