-- Places in lists, and arguments among the argument lists of a name.
use Rattle.std.proofs.Common.{◌≡◌, ◌⊎◌, inl, inr, ℕ, zero, suc, ◌+◌, ◌<◌, ◌≤◌, nat_lt, Bool, true}
use Rattle.std.proofs.Common.{false, true≢false, not, cond, ◌||◌, List, [], ◌∷◌, length, map}
use Rattle.std.proofs.Common.{flat_map, slice_get, position, Some, None, refl, sym, ap, subst, ◌∙◌}
use Rattle.std.proofs.Common.{arith}
use Rattle.std.specs.List.{AllZip, list_any, position_or_len, range_with_len}
use Rattle.std.specs.Str.{bytes_eq}
use Rattle.std.proofs.lemmas.Bool.Decides.{nat_tests}
use Rattle.rule_forms.specs.Sound.{AllOf}
use Rattle.ground_types.specs.Words.{has, place_in}
use Rattle.ground_types.specs.Sound.{argument_lists}
use Rattle.word_table.proofs.LookUps.{same_word, equal_word}
use Rattle.ground_rules.proofs.Members.{In, all_weaker, all_flat_map, all_map, some_pass, in_front}
use Rattle.ground_rules.proofs.Members.{in_back}

-- ---- the first place at which a test passes

-- the place, and the item there
pub record IsPlace {A : Type 0} (p : A → Bool) (xs : List A) : Type 0 where
  pub place : ℕ
  pub item : A
  pub is : position p xs ≡ Some place
  pub inside : place < length xs
  pub at : slice_get xs place ≡ Some item
  pub passes : p item ≡ true

record IsFirst {A : Type 0} (p : A → Bool) (xs : List A) (n : ℕ) : Type 0 where
  item : A
  inside : n < length xs
  at : slice_get xs n ≡ Some item
  passes : p item ≡ true

module _ {A : Type 0} (p : A → Bool) where
  first_place : (xs : List A) → list_any p xs ≡ true → IsFirst p xs (position_or_len p xs)
  first_place [] e = absurd (true≢false (sym e))
  first_place (x ∷ xs) e = by (p x) refl (first_place xs)
    where
      by : (b : Bool) → p x ≡ b → (list_any p xs ≡ true → IsFirst p xs (position_or_len p xs))
          → IsFirst p (x ∷ xs) (cond (not (p x)) (1 + position_or_len p xs) 0)
      by true t rest =
          subst (IsFirst p (x ∷ xs)) (ap (λ b. cond (not b) (1 + position_or_len p xs) 0) (sym t))
          (record { item = x; inside = omega arith; at = refl; passes = t })
      by false t others =
          let rest = others (sym (ap (λ b. b || list_any p xs) t) ∙ e) in
          let next : suc (position_or_len p xs) ≡ 1 + position_or_len p xs = omega arith in
          subst (IsFirst p (x ∷ xs)) (next ∙ ap (λ b. cond (not b) (1 + position_or_len p xs) 0)
          (sym t))
          (record {
            item = rest.item;
            inside = omega (arith, rest.inside);
            at = rest.at;
            passes =
                rest.passes;
          })

  pub place_of : (xs : List A) → list_any p xs ≡ true → IsPlace p xs
  place_of xs e =
      let first = first_place xs e in
      let inside = first.inside in
      let lt : nat_lt (position_or_len p xs) (length xs) ≡ true = grind (arith, nat_tests) in
      record {
        place = position_or_len p xs;
        item = first.item;
        is = ap (λ b. cond b (Some (position_or_len p xs)) None) lt;
        inside = first.inside;
        at = first.at;
        passes = first.passes;
      }

-- a word that stands in a list has a place there
pub record IsWordPlace (words : List (List ℕ)) (word : List ℕ) : Type 0 where
  pub place : ℕ
  pub is : place_in words word ≡ Some place
  pub inside : place < length words
  pub at : slice_get words place ≡ Some word

pub word_place : (words : List (List ℕ)) (word : List ℕ) → has words word ≡ true
    → IsWordPlace words word
word_place words word e =
    let found = place_of (λ other. bytes_eq other word) words e in
    record {
      place = found.place;
      is = found.is;
      inside = found.inside;
      at = found.at
          ∙ ap Some (same_word found.item word found.passes);
    }

-- ---- argument lists

module _ {A B : Type 0} where
  pub in_map : (f : A → B) (x : A) (xs : List A) → In x xs → In (f x) (map f xs)
  in_map f x [] i = elim i [ ]
  in_map f x (y ∷ ys) (inl e) = inl (ap f e)
  in_map f x (y ∷ ys) (inr i) = inr (in_map f x ys i)

  pub in_flat_map : (f : A → List B) (x : A) (xs : List A) (y : B) → In x xs → In y (f x)
      → In y (flat_map f xs)
  in_flat_map f x [] y i j = elim i [ ]
  in_flat_map f x (z ∷ zs) y (inl e) j = in_front y (f z) (flat_map f zs)
      (subst (λ w. In y (f w)) (sym e) j)
  in_flat_map f x (z ∷ zs) y (inr i) j = in_back y (f z) (flat_map f zs) (in_flat_map f x zs y i j)

pub in_range : (start n a : ℕ) → start ≤ a → a < start + n → In a (range_with_len start n)
in_range start zero a low high = absurd (omega arith)
in_range start (suc n) a low high = by equal_or_more (in_range (start + 1) n a)
  where
    equal_or_more : (start ≡ a) ⊎ (start + 1 ≤ a)
    equal_or_more = grind arith

    by : (start ≡ a) ⊎ (start + 1 ≤ a) → (start + 1 ≤ a → a < start + 1 + n
        → In a (range_with_len (start + 1) n)) → In a (range_with_len start (suc n))
    by (inl e) rest = inl e
    by (inr more) rest = inr (rest more (omega arith))

pub range_below : (start n : ℕ) → AllOf (λ a. a < start + n) (range_with_len start n)
range_below start zero = tt
range_below start (suc n) =
    let same : start + 1 + n ≡ start + suc n = omega arith in (
      omega arith,
      subst (λ m. AllOf (λ a. a < m) (range_with_len (start + 1) n)) same
          (range_below (start + 1) n),
    )

-- a list of numbers below the sizes is an argument list
pub argument_list_in : (args sizes : List ℕ) → AllZip ◌<◌ args sizes
    → In args (argument_lists sizes)
argument_list_in [] [] all = inl refl
argument_list_in [] (s ∷ ss) all = absurd all
argument_list_in (a ∷ args) [] all = absurd all
argument_list_in (a ∷ args) (s ∷ ss) all =
    in_flat_map (λ entity. map (λ rest. entity ∷ rest) (argument_lists ss)) a (range_with_len 0 s)
    (a ∷ args)
    (in_range 0 s a (omega arith) (omega (arith, all.0)))
    (in_map (λ rest. a ∷ rest) args (argument_lists ss) (argument_list_in args ss all.1))

-- each argument list is such a list
pub argument_lists_below : (sizes : List ℕ) → AllOf (λ args. AllZip ◌<◌ args sizes)
    (argument_lists sizes)
argument_lists_below [] = (tt, tt)
argument_lists_below (s ∷ ss) =
    all_flat_map (λ args. AllZip ◌<◌ args (s ∷ ss)) (λ entity. map (λ rest. entity ∷ rest)
    (argument_lists ss)) (range_with_len 0 s)
    (all_weaker (λ entity. entity < 0 + s) (λ entity. AllOf (λ args. AllZip ◌<◌ args (s ∷ ss))
    (map (λ rest. entity ∷ rest) (argument_lists ss)))
    (λ entity below. all_map (λ args. AllZip ◌<◌ args (s ∷ ss)) (λ rest. entity ∷ rest)
    (argument_lists ss)
    (all_weaker (λ args. AllZip ◌<◌ args ss) (λ rest. AllZip ◌<◌ (entity ∷ rest) (s ∷ ss))
    (λ rest h. (omega (arith, below), h)) (argument_lists ss) (argument_lists_below ss)))
    (range_with_len 0 s) (range_below 0 s))

-- its place among them
pub record IsArguments (args sizes : List ℕ) : Type 0 where
  pub number : ℕ
  pub is : position (bytes_eq args) (argument_lists sizes) ≡ Some number
  pub inside : number < length (argument_lists sizes)
  pub at : slice_get (argument_lists sizes) number ≡ Some args

pub arguments_place : (args sizes : List ℕ) → AllZip ◌<◌ args sizes → IsArguments args sizes
arguments_place args sizes all =
    let found = place_of (bytes_eq args) (argument_lists sizes) (some_pass (bytes_eq args)
    (argument_lists sizes) args (argument_list_in args sizes all) (equal_word args args refl)) in
    record {
      number = found.place;
      is = found.is;
      inside = found.inside;
      at = found.at
          ∙ ap Some (sym (same_word args found.item found.passes));
    }
