-- What the counts of lists that have a point come to.
use Rattle.std.proofs.Common.{◌≡◌, ℕ, ◌+◌, ◌≤◌, Bool, true, false, not, ◌&&◌, ◌||◌, ltb, eqb, List}
use Rattle.std.proofs.Common.{[], ◌∷◌, length, map, refl, sym, ◌∙◌, ap, arith}
use Rattle.std.proofs.lemmas.Bool.Decides.{nat_tests}
use Rattle.std.proofs.lemmas.List.Folds.{list_all-map}
use Rattle.std.specs.List.{list_any, list_all}
use Rattle.span_algebra.specs.declared.spans.Span.{Span}
use Rattle.span_algebra.specs.declared.cursor.Cursor.{Cursor}
use Rattle.span_algebra.specs.declared.cursor.Side.{Side}
use Rattle.span_algebra.specs.declared.cursor.Side.TheVariants.{Wanted, Barred}
use Rattle.span_algebra.specs.declared.walk.Test.TheVariants.{SomeAndNone, Exactly}
use Rattle.rt_base.specs.Truths.{differs}
use Rattle.span_algebra.specs.Normal.{covers}
use Rattle.span_algebra.specs.Walk.{count_at, count_on, answer_of, one_on, counted_on}

module _ {X : Type 0} (f : X → List Span) (t : ℕ) where
  more_some : (b c : Bool) (xs : List (List Span)) (l : List Span) → covers l t ≡ b
      → ltb 0 (count_at xs t) ≡ c → ltb 0 (count_at (l ∷ xs) t) ≡ (b || c)
  more_some true c xs l is rest = rw is (grind (arith, nat_tests))
  more_some false c xs l is rest = rw is rest

  -- some list has the point where the count is not 0
  some_counted : (xs : List X) → ltb 0 (count_at (map f xs) t) ≡ list_any (λ x. covers (f x) t) xs
  some_counted [] = refl
  some_counted (x ∷ xs) = more_some (covers (f x) t) (list_any (λ x. covers (f x) t) xs) (map f xs)
      (f x) refl (some_counted xs)

  more_few : (b : Bool) (xs : List (List Span)) (l : List Span) (n : ℕ) → covers l t ≡ b
      → count_at xs t ≤ n → count_at (l ∷ xs) t ≤ 1 + n
  more_few true xs l n is rest = rw is (omega (arith, rest))
  more_few false xs l n is rest = rw is (omega (arith, rest))

  -- the count is at most the number of lists
  counted_few : (xs : List X) → count_at (map f xs) t ≤ length xs
  counted_few [] = omega arith
  counted_few (x ∷ xs) = let few : count_at (map f (x ∷ xs)) t ≤ 1 + length xs =
      more_few (covers (f x) t) (map f xs) (f x) (length xs) refl (counted_few xs) in
      omega (arith, few)

  more_each : (b c : Bool) (xs : List (List Span)) (l : List Span) (n : ℕ) → covers l t ≡ b
      → count_at xs t ≤ n → eqb (count_at xs t) n ≡ c → eqb (count_at (l ∷ xs) t) (1 + n)
      ≡ (b && c)
  more_each true c xs l n is few rest = rw is (grind (arith, nat_tests))
  more_each false c xs l n is few rest = rw is (grind (arith, nat_tests))

  -- each list has it where the count is their number
  each_counted : (xs : List X) → eqb (count_at (map f xs) t) (length xs)
      ≡ list_all (λ x. covers (f x) t) xs
  each_counted [] = refl
  each_counted (x ∷ xs) =
      let more : eqb (count_at (map f (x ∷ xs)) t) (1 + length xs) ≡ list_all (λ x. covers (f x) t)
      (x ∷ xs) =
      more_each (covers (f x) t) (list_all (λ x. covers (f x) t) xs) (map f xs) (f x) (length xs)
      refl (counted_few xs) (each_counted xs) in
      let long : length (x ∷ xs) ≡ 1 + length xs = omega arith in
      rw long more

  -- what the walks of the constructs answer
  pub union_is : (xs : List X) (wanted barred : ℕ) → wanted ≡ 0 + counted_on Wanted Wanted
      (count_at (map f xs) t) → barred ≡ 0 + counted_on Barred Wanted (count_at (map f xs) t) →
      answer_of SomeAndNone wanted barred ≡ list_any (λ x. covers (f x) t) xs
  union_is xs wanted barred a b = grind (arith, nat_tests, a, b, some_counted xs)

  pub intersection_is : (xs : List X) (n wanted barred : ℕ) → n ≡ length xs
      → wanted ≡ 0 + counted_on Wanted Wanted (count_at (map f xs) t) →
      answer_of (Exactly n) wanted barred ≡ list_all (λ x. covers (f x) t) xs
  intersection_is xs n wanted barred is a =
      let same : wanted ≡ count_at (map f xs) t = omega (arith, a) in
      rw (same, is) (each_counted xs)

  pub complement_is : (xs : List X) (b : Bool) (wanted barred : ℕ) →
      wanted ≡ 0 + one_on Wanted b Wanted + counted_on Wanted Barred (count_at (map f xs) t)
      → barred ≡ 0 + one_on Barred b Wanted + counted_on Barred Barred (count_at (map f xs) t) →
      answer_of SomeAndNone wanted barred ≡ (b && not (list_any (λ x. covers (f x) t) xs))
  complement_is xs true wanted barred a c = rw (← some_counted xs) (grind (arith, nat_tests, a, c))
  complement_is xs false wanted barred a c = grind (arith, nat_tests, a)

-- just one of two has a point
pub one_is : (a b : Bool) → answer_of (Exactly 1) (one_on Wanted a Wanted + one_on Wanted b Wanted)
    0
    ≡ differs a b
one_is true true = refl
one_is true false = refl
one_is false true = refl
one_is false false = refl

-- the same of lists that are lent
pub some_lent : {X : Type 0} (f : X → List Span) (xs : List X) (ys : List (List Span)) (t : ℕ)
    → map f xs ≡ ys → list_any (λ x. covers (f x) t) xs ≡ list_any (λ l. covers l t) ys
some_lent {X = X} f xs ys t is = of xs ∙ ap (list_any (λ l. covers l t)) is
  where
    of : (xs : List X) → list_any (λ x. covers (f x) t) xs ≡ list_any (λ l. covers l t) (map f xs)
    of [] = refl
    of (x ∷ xs) = ap (λ b. covers (f x) t || b) (of xs)

pub each_lent : {X : Type 0} (f : X → List Span) (xs : List X) (ys : List (List Span)) (t : ℕ)
    → map f xs ≡ ys → list_all (λ x. covers (f x) t) xs ≡ list_all (λ l. covers l t) ys
each_lent f xs ys t is = sym (list_all-map (λ l. covers l t) f xs)
    ∙ ap (list_all (λ l. covers l t)) is

-- no list has been added before
pub first_after : (side : Side) (t : ℕ) (cs more : List Cursor) (n : ℕ) → cs ≡ []
    → count_on side more t ≡ count_on side cs t + n → count_on side more t ≡ 0 + n
first_after side t cs more n none is = is ∙ ap (λ cs. count_on side cs t + n) none

pub second_after : (side : Side) (t : ℕ) (cs more most : List Cursor) (m n : ℕ) → cs ≡ []
    → count_on side more t ≡ count_on side cs t + m → count_on side most t ≡ count_on side more t +
    n →
    count_on side most t ≡ 0 + m + n
second_after side t cs more most m n none one two = two
    ∙ ap (λ k. k + n) (first_after side t cs more m none one)
