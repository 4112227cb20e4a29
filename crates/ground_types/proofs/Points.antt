-- A rising list of points is fixed by what it contains, and the points of a test are those at which
-- the test is true.
use Rattle.std.proofs.Common.{◌≡◌, ◌⊎◌, inl, inr, ℕ, zero, suc, ◌+◌, ◌-◌, ◌<◌, ◌≤◌, Bool, true}
use Rattle.std.proofs.Common.{false, cond, ◌&&◌, ◌||◌, leb, ltb, eqb, List, [], ◌∷◌, filter, refl}
use Rattle.std.proofs.Common.{sym, ◌∙◌, ap, arith, subst}
use Rattle.std.specs.List.{range_with_len}
use Rattle.std.proofs.lemmas.Bool.Decides.{nat_tests}
use Rattle.ground_types.specs.Members.{contains}
use Rattle.ground_types.proofs.Members.{contains_hit, contains_miss}
use Rattle.rt_base.proofs.Numbers.{equal_from_bounds, le_or_above}
use Rattle.ground_types.specs.Rows.{points, ArePointsFrom, ArePoints}

from_less : (floor less : ℕ) (xs : List ℕ) → less ≤ floor → ArePointsFrom floor xs
    → ArePointsFrom less xs
from_less floor less [] le rising = tt
from_less floor less (p ∷ rest) le rising = (omega (arith, rising.0), rising.1)

-- no point lies below the floor
contains_floor : (floor : ℕ) (xs : List ℕ) (t : ℕ) → ArePointsFrom floor xs → t < floor
    → contains xs t ≡ false
contains_floor floor [] t rising low = refl
contains_floor floor (p ∷ rest) t rising low =
    let below : t < p = omega (arith, rising.0) in
    contains_miss p rest t (inl below) ∙ contains_floor (p + 1) rest t rising.1 (omega arith)

-- the points of a test among the n points from a on
record AreFiltered (test : ℕ → Bool) (a n : ℕ) (xs : List ℕ) : Type 0 where
  pub rising : ArePointsFrom a xs
  pub each : (t : ℕ) → contains xs t ≡ (leb a t && ltb t (a + n) && test t)

none_there : (a t : ℕ) (b : Bool) → (leb a t && ltb t (a + 0) && b) ≡ false
none_there a t b = grind (arith, nat_tests)

first_true : (a n t : ℕ) (b : Bool) → (a ≡ t → b ≡ true) →
    (eqb a t || (leb (a + 1) t && ltb t (a + 1 + n) && b)) ≡ (leb a t && ltb t (a + suc n) && b)
first_true a n t true at = grind (arith, nat_tests)
first_true a n t false at = grind (arith, nat_tests)

first_false : (a n t : ℕ) (b : Bool) → (a ≡ t → b ≡ false) →
    (leb (a + 1) t && ltb t (a + 1 + n) && b) ≡ (leb a t && ltb t (a + suc n) && b)
first_false a n t true at = grind (arith, nat_tests)
first_false a n t false at = grind (arith, nat_tests)

filtered_more : (test : ℕ → Bool) (a n : ℕ) (xs : List ℕ) (b : Bool) → test a ≡ b
    → AreFiltered test (a + 1) n xs →
    AreFiltered test a (suc n) (cond b (a ∷ xs) xs)
filtered_more test a n xs true is rest = record {
  rising = (omega arith, rest.rising);
  each = λ t. ap (λ (b : Bool). eqb a t || b) (rest.each t) ∙ first_true a n t (test t)
      (λ at. sym (ap test at) ∙ is);
}
filtered_more test a n xs false is rest = record {
  rising = from_less (a + 1) a xs (omega arith) rest.rising;
  each = λ t. rest.each t ∙ first_false a n t (test t) (λ at. sym (ap test at) ∙ is);
}

filtered_are : (test : ℕ → Bool) (a n : ℕ) → AreFiltered test a n (filter test (range_with_len a n))
filtered_are test a zero = record { rising = tt; each = λ t. sym (none_there a t (test t)) }
filtered_are test a (suc n) = filtered_more test a n (filter test (range_with_len (a + 1) n))
    (test a) refl (filtered_are test (a + 1) n)

inside_same : (w q t : ℕ) (b : Bool) → w ≤ q → (leb (w + 1) t && ltb t (w + 1 + (q - w)) && b)
    ≡ (ltb w t && leb t q && b)
inside_same w q t b le = grind (arith, nat_tests)

-- the points of a test are the rising list of exactly the points at which it is true
pub points_are : (test : ℕ → Bool) (w q : ℕ) → w ≤ q → ArePoints test w q (points test w q)
points_are test w q le =
    let all : AreFiltered test (w + 1) (q - w) (points test w q) = filtered_are test (w + 1)
    (q - w) in
    record { rising = all.rising; each = λ t. all.each t ∙ inside_same w q t (test t) le }

-- of two rising lists with the same points, the first point of one is not below that of the other
not_below : (p u : ℕ) (xs ys : List ℕ) → ArePointsFrom (u + 1) ys
    → ((t : ℕ) → contains (p ∷ xs) t ≡ contains (u ∷ ys) t) → p < u → ⊥
not_below p u xs ys right same low =
    let hit : contains (p ∷ xs) p ≡ true = contains_hit p xs p refl in
    let none : contains (u ∷ ys) p ≡ false = contains_miss u ys p (inl low)
    ∙ contains_floor (u + 1) ys p right (omega arith) in
    let both : true ≡ false = sym hit ∙ same p ∙ none in
    cc

same_points_behind : (p : ℕ) (xs ys : List ℕ) → ArePointsFrom (p + 1) xs
    → ArePointsFrom (p + 1) ys
    → ((t : ℕ) → contains (p ∷ xs) t ≡ contains (p ∷ ys) t) → (t : ℕ) → (t ≤ p) ⊎ (p < t)
    → contains xs t ≡ contains ys t
same_points_behind p xs ys left right same t (inl low) =
    contains_floor (p + 1) xs t left (omega arith)
    ∙ sym (contains_floor (p + 1) ys t right (omega arith))
same_points_behind p xs ys left right same t (inr high) =
    sym (contains_miss p xs t (inr high)) ∙ same t
    ∙ contains_miss p ys t (inr high)

-- rising lists with the same points are the same
pub rising_points_unique : (floor : ℕ) (xs ys : List ℕ) → ArePointsFrom floor xs
    → ArePointsFrom floor ys →
    ((t : ℕ) → contains xs t ≡ contains ys t) → xs ≡ ys
rising_points_unique floor [] [] left right same = refl
rising_points_unique floor [] (u ∷ ys) left right same =
    absurd (let both : false ≡ true = same u ∙ contains_hit u ys u refl in cc)
rising_points_unique floor (p ∷ xs) [] left right same =
    absurd (let both : true ≡ false = sym (contains_hit p xs p refl) ∙ same p in cc)
rising_points_unique floor (p ∷ xs) (u ∷ ys) left right same =
    let first : p ≡ u = equal_from_bounds p u (not_below p u xs ys right.1 same)
    (not_below u p ys xs left.1 (λ t. sym (same t))) in
    let after : ArePointsFrom (p + 1) ys = subst (λ (m : ℕ). ArePointsFrom (m + 1) ys) (sym first)
    right.1 in
    let points : (t : ℕ) → contains (p ∷ xs) t ≡ contains (p ∷ ys) t =
    subst (λ (m : ℕ). (t : ℕ) → contains (p ∷ xs) t ≡ contains (m ∷ ys) t) (sym first) same in
    let rest : xs ≡ ys = rising_points_unique (p + 1) xs ys left.1 after
    (λ t. same_points_behind p xs ys left.1 after points t (le_or_above t p)) in
    cc

pub points_unique : (test : ℕ → Bool) (w q : ℕ) (one two : List ℕ) → ArePoints test w q one
    → ArePoints test w q two → one ≡ two
points_unique test w q one two left right =
    rising_points_unique (w + 1) one two left.rising right.rising (λ t. left.each t
    ∙ sym (right.each t))
