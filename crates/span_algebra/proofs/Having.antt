-- The points of rising lists.
use Rattle.std.proofs.Common.{◌≡◌, ◌≢◌, ◌⊎◌, inl, inr, ℕ, zero, suc, ◌+◌, ◌<◌, ◌≤◌, true}
use Rattle.std.proofs.Common.{false, eqb, List, [], ◌∷◌, length, get_or, refl, sym, ◌∙◌}
use Rattle.std.proofs.Common.{arith, subst, Result, Ok, Err}
use Rattle.std.proofs.Math.Bool.{or-true}
use Rattle.std.proofs.lemmas.Bool.Decides.{nat_tests}
use Rattle.std.proofs.lemmas.List.Sorted.{searched}
use Rattle.std.specs.List.Sorted.{IsBinarySearchResult}
use Rattle.std.specs.Ordering.{nat_cmp}
use Rattle.std.specs.Prelude.{MatchResult, is_ok}
use Rattle.span_algebra.specs.Normal.{IsRising, IsRisingFrom, has}
use Rattle.rt_base.proofs.Numbers.{le_or_above, equal_from_bounds}

pub has_hit : (p : ℕ) (rest : List ℕ) (t : ℕ) → p ≡ t → has (p ∷ rest) t ≡ true
has_hit p rest t is = grind (arith, nat_tests)

pub has_miss : (p : ℕ) (rest : List ℕ) (t : ℕ) → p ≢ t → has (p ∷ rest) t ≡ has rest t
has_miss p rest t other = grind (arith, nat_tests)

-- nothing below the floor is there
pub has_floor : (floor : ℕ) (xs : List ℕ) (t : ℕ) → IsRisingFrom floor xs → t < floor
    → has xs t ≡ false
has_floor floor [] t rising low = refl
has_floor floor (p ∷ rest) t rising low =
    let other : p ≢ t = (λ is. let le : floor ≤ p = rising.0 in omega arith) in
    has_miss p rest t other ∙ has_floor (p + 1) rest t rising.1 (omega (arith, rising.0))

-- the points do not fall
pub point_above : (floor : ℕ) (xs : List ℕ) (k : ℕ) → IsRisingFrom floor xs → k < length xs
    → floor ≤ get_or xs k 0
point_above floor [] k rising lt = absurd (omega arith)
point_above floor (p ∷ rest) zero rising lt = rising.0
point_above floor (p ∷ rest) (suc k) rising lt =
    let more : p + 1 ≤ get_or rest k 0 = point_above (p + 1) rest k rising.1 (omega arith) in
    omega (arith, rising.0, more)

pub points_rise : (floor : ℕ) (xs : List ℕ) → IsRisingFrom floor xs → (i j : ℕ) → i ≤ j
    → j < length xs → get_or xs i 0 ≤ get_or xs j 0
points_rise floor [] rising i j le lt = absurd (omega arith)
points_rise floor (p ∷ rest) rising zero zero le lt = omega arith
points_rise floor (p ∷ rest) rising zero (suc j) le lt =
    let more : p + 1 ≤ get_or rest j 0 = point_above (p + 1) rest j rising.1 (omega arith) in
    omega (arith, more)
points_rise floor (p ∷ rest) rising (suc i) zero le lt = absurd (omega arith)
points_rise floor (p ∷ rest) rising (suc i) (suc j) le lt = points_rise (p + 1) rest rising.1 i j
    (omega arith) (omega arith)

-- a point is there exactly where some place has it
pub has_at : (xs : List ℕ) (k t : ℕ) → k < length xs → get_or xs k 0 ≡ t → has xs t ≡ true
has_at [] k t lt is = absurd (omega arith)
has_at (p ∷ rest) zero t lt is = has_hit p rest t is
has_at (p ∷ rest) (suc k) t lt is = rw (has_at rest k t (omega arith) is) (or-true (eqb p t))

pub has_nowhere : (xs : List ℕ) (t : ℕ) → ((k : ℕ) → k < length xs → get_or xs k 0 ≢ t)
    → has xs t ≡ false
has_nowhere [] t other = refl
has_nowhere (p ∷ rest) t other = has_miss p rest t (other 0 (omega arith))
    ∙ has_nowhere rest t (λ k lt. other (suc k) (omega arith))

-- what a binary search finds
apart : (xs : List ℕ) (t k i : ℕ) → ((j : ℕ) → j < k → get_or xs j 0 < t)
    → ((j : ℕ) → k ≤ j → j < length xs → t < get_or xs j 0) →
    i < length xs → (k ≤ i) ⊎ (i < k) → get_or xs i 0 ≢ t
apart xs t k i below above lt (inl more) = λ is. absurd (let over : t < get_or xs i 0 =
    above i more lt in omega arith)
apart xs t k i below above lt (inr less) = λ is. absurd (let under : get_or xs i 0 < t =
    below i less in omega arith)

has_by : (xs : List ℕ) (t : ℕ) (r : Result ℕ ℕ) →
    MatchResult r (λ i. (i < length xs) × (get_or xs i 0 ≡ t)) (λ i. (i ≤ length xs)
    × ((k : ℕ) → k < i → get_or xs k 0 < t) × ((k : ℕ) → i ≤ k → k < length xs
    → t < get_or xs k 0)) →
    is_ok r ≡ has xs t
has_by xs t (Ok k) found = sym (has_at xs k t found.0 found.1)
has_by xs t (Err k) found = sym (has_nowhere xs t (λ i lt. apart xs t k i found.1 found.2 lt
    (le_or_above k i)))

pub has_found : (xs : List ℕ) (t : ℕ) (r : Result ℕ ℕ) → IsRising xs
    → IsBinarySearchResult (λ y. nat_cmp y t) xs r → is_ok r ≡ has xs t
has_found xs t r rising found = has_by xs t r (searched xs t r found (points_rise 0 xs rising))

-- two rising lists with the same points begin alike
same_first : (floor p q : ℕ) (xs ys : List ℕ) → IsRisingFrom floor (p ∷ xs)
    → IsRisingFrom floor (q ∷ ys) →
    ((t : ℕ) → has (p ∷ xs) t ≡ has (q ∷ ys) t) → p < q → ⊥
same_first floor p q xs ys left right same low =
    let none : has (q ∷ ys) p ≡ false = has_floor q (q ∷ ys) p (omega arith, right.1) low in
    let both : true ≡ false = sym (has_hit p xs p refl) ∙ same p ∙ none in
    cc

same_points_behind : (p : ℕ) (xs ys : List ℕ) → IsRisingFrom (p + 1) xs → IsRisingFrom (p + 1) ys →
    ((t : ℕ) → has (p ∷ xs) t ≡ has (p ∷ ys) t) → (t : ℕ) → (p + 1 ≤ t) ⊎ (t < p + 1)
    → has xs t ≡ has ys t
same_points_behind p xs ys left right same t (inl high) =
    let other : p ≢ t = (λ is. omega arith) in
    sym (has_miss p xs t other) ∙ same t ∙ has_miss p ys t other
same_points_behind p xs ys left right same t (inr low) = has_floor (p + 1) xs t left low
    ∙ sym (has_floor (p + 1) ys t right low)

-- a rising list is fixed by its points
pub rising_unique : (floor : ℕ) (xs ys : List ℕ) → IsRisingFrom floor xs → IsRisingFrom floor ys
    → ((t : ℕ) → has xs t ≡ has ys t) → xs ≡ ys
rising_unique floor [] [] left right same = refl
rising_unique floor [] (q ∷ ys) left right same = absurd (let both : false ≡ true = same q
    ∙ has_hit q ys q refl in cc)
rising_unique floor (p ∷ xs) [] left right same = absurd (let both : true ≡ false =
    sym (has_hit p xs p refl) ∙ same p in cc)
rising_unique floor (p ∷ xs) (q ∷ ys) left right same =
    let first : p ≡ q = equal_from_bounds _ _ (same_first floor p q xs ys left right same)
    (same_first floor q p ys xs right left (λ t. sym (same t))) in
    let again : IsRisingFrom (p + 1) ys = subst (λ (e : ℕ). IsRisingFrom (e + 1) ys) (sym first)
    right.1 in
    let points : (t : ℕ) → has (p ∷ xs) t ≡ has (p ∷ ys) t =
    subst (λ (v : ℕ). (t : ℕ) → has (p ∷ xs) t ≡ has (v ∷ ys) t) (sym first) same in
    let rest : xs ≡ ys = rising_unique (p + 1) xs ys left.1 again
    (λ t. same_points_behind p xs ys left.1 again points t (le_or_above (p + 1) t)) in
    cc
