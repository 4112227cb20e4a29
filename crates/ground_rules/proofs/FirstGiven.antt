-- The first of so many numbers that is among some, one more after the other.
use Rattle.std.proofs.Common.{◌≡◌, ℕ, zero, suc, ◌+◌, ◌<◌, ◌≤◌, Bool, true, false, ◌||◌, cond}
use Rattle.std.proofs.Common.{nat_eq, nat_lt, List, [], ◌∷◌, ◌++◌, Option, Some, None, refl, sym}
use Rattle.std.proofs.Common.{ap, ap₂, ◌∙◌, arith, if◌then◌else◌}
use Rattle.std.proofs.lemmas.Bool.{eqb-true, eqb-false}
use Rattle.std.proofs.lemmas.Bool.Decides.{nat_tests}
use Rattle.std.specs.List.{find, range_with_len}
use Rattle.ground_types.specs.Members.{contains}
use Rattle.ground_rules.specs.Origins.{lesser_of, lesser}

pub none_found : (first count : ℕ) → find (contains []) (range_with_len first count) ≡ None
none_found first zero = refl
none_found first (suc count) = none_found (first + 1) count

contains_last : (xs : List ℕ) (x k : ℕ) → contains (xs ++ x ∷ []) k ≡ (contains xs k || nat_eq x k)
contains_last [] x k = or_none (nat_eq x k)
  where
    or_none : (b : Bool) → (b || false) ≡ b
    or_none true = refl
    or_none false = refl
contains_last (y ∷ xs) x k = ap (λ b. nat_eq y k || b) (contains_last xs x k)
    ∙ assoc (nat_eq y k) (contains xs k) (nat_eq x k)
  where
    assoc : (a b d : Bool) → (a || (b || d)) ≡ ((a || b) || d)
    assoc true b d = refl
    assoc false b d = refl

find_past : (p : ℕ → Bool) (first count k : ℕ) → find p (range_with_len first count) ≡ Some k
    → first ≤ k
find_past p first zero k e = absurd (cc)
find_past p first (suc count) k e = by (p first) (find_past p (first + 1) count k) e
  where
    by : (b : Bool) → (find p (range_with_len (first + 1) count) ≡ Some k → first + 1 ≤ k)
        → cond b (Some first) (find p (range_with_len (first + 1) count)) ≡ Some k → first ≤ k
    by true rest s = let same : first ≡ k = cc in omega arith
    by false rest s = let past = rest s in omega arith

module _ (xs : List ℕ) (x : ℕ) where
  -- where the number is not below those that are looked through, nothing changes
  none_more : (first count : ℕ) → first + count ≤ x → find (contains (xs ++ x ∷ []))
      (range_with_len first count) ≡ find (contains xs) (range_with_len first count)
  none_more first zero past = refl
  none_more first (suc count) past =
      let differ : nat_eq x first ≡ false = grind (arith, nat_tests) in
      ap₂ (λ b o. cond b (Some first) o) (contains_last xs x first
      ∙ ap (λ b. contains xs first || b) differ ∙ or_false (contains xs first))
      (none_more (first + 1) count (omega arith))
    where
      or_false : (b : Bool) → (b || false) ≡ b
      or_false true = refl
      or_false false = refl

  least_here : (first : ℕ) (o : Option ℕ) → ((k : ℕ) → o ≡ Some k → first ≤ k)
      → Some first ≡ Some (lesser_of o first)
  least_here first None past = refl
  least_here first (Some k) past = let low = past k refl in ap Some (omega arith)

  one_more : (first count : ℕ) → first ≤ x → x < first + count → find (contains (xs ++ x ∷ []))
      (range_with_len first count) ≡ Some
      (lesser_of (find (contains xs) (range_with_len first count)) x)
  one_more first zero low high = absurd (omega arith)
  one_more first (suc count) low high =
      ap (λ b. cond b (Some first) (find (contains (xs ++ x ∷ [])) (range_with_len (first + 1)
      count))) (contains_last xs x first)
      ∙ by (contains xs first) (nat_eq x first) refl (one_more (first + 1) count)
    where
      by : (b d : Bool) → nat_eq x first ≡ d
          → (first + 1 ≤ x → x < first + 1 + count → find (contains (xs ++ x ∷ []))
          (range_with_len (first + 1) count)
          ≡ Some (lesser_of (find (contains xs) (range_with_len (first + 1) count)) x))
          → cond (b || d) (Some first) (find (contains (xs ++ x ∷ [])) (range_with_len (first + 1)
          count)) ≡ Some (lesser_of (cond b (Some first)
          (find (contains xs) (range_with_len (first + 1) count))) x)
      by true d e rest = ap Some (omega arith)
      by false true e rest =
          let same : x ≡ first = eqb-true x first e in
          least_here first (find (contains xs) (range_with_len (first + 1) count))
          (λ k f. (let past = find_past (contains xs) (first + 1) count k f in omega arith))
          ∙ ap (λ n. Some (lesser_of (find (contains xs) (range_with_len (first + 1) count)) n))
          (sym same)
      by false false e rest =
          let differ = eqb-false x first e in
          rest (omega (arith, differ)) (omega arith)

  pub first_with_more : (count : ℕ) → find (contains (xs ++ x ∷ [])) (range_with_len 0 count)
      ≡ lesser count (find (contains xs) (range_with_len 0 count)) x
  first_with_more count = by (nat_lt x count) refl
    where
      by : (b : Bool) → nat_lt x count ≡ b → find (contains (xs ++ x ∷ []))
          (range_with_len 0 count) ≡ (if b
          then Some (lesser_of (find (contains xs) (range_with_len 0 count)) x)
          else find (contains xs) (range_with_len 0 count))
      by true e = let low : x < count = grind (arith, nat_tests) in
          one_more 0 count (omega arith) (omega arith)
      by false e = let high : count ≤ x = grind (arith, nat_tests) in
          none_more 0 count (omega arith)
