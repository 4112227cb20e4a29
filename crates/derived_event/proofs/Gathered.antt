-- Points of several lists put together, sorted and without repeats: they rise, and are the same
-- points.
use Rattle.std.proofs.Common.{◌≡◌, ℕ, ◌+◌, ◌<◌, ◌≤◌, Bool, true, false, cond, ◌||◌, eqb, List, []}
use Rattle.std.proofs.Common.{◌∷◌, length, get_or, refl, sym, ◌∙◌, ap, arith, add-one}
use Rattle.std.specs.List.{dedup, dedup_from, flat_map, list_any}
use Rattle.std.specs.List.Sorted.{IsStrictlyIncreasing, IsSorted}
use Rattle.std.specs.Ordering.{nat_cmp}
use Rattle.std.proofs.lemmas.Bool.{eqb-true}
use Rattle.std.proofs.lemmas.List.Folds.{list_any-append}
use Rattle.std.proofs.lemmas.Map.Keys.{IsStrictlyIncreasing-dedup}
use Rattle.span_algebra.specs.Normal.{IsRising, IsRisingFrom}
use Rattle.ground_types.specs.Members.{contains}

at_next : (x : ℕ) (rest : List ℕ) (k : ℕ) → get_or (x ∷ rest) (k + 1) 0 ≡ get_or rest k 0
at_next x rest k = rw add-one refl

increasing_rest : (x : ℕ) (rest : List ℕ) → IsStrictlyIncreasing (x ∷ rest)
    → IsStrictlyIncreasing rest
increasing_rest x rest up k within =
    let next : get_or (x ∷ rest) (k + 1) 0 < get_or (x ∷ rest) (k + 1 + 1) 0 =
    up (k + 1) (omega arith) in
    omega (arith, at_next x rest k, at_next x rest (k + 1))

-- numbers that increase from a floor on
pub rising_from : (floor : ℕ) (xs : List ℕ) → (0 < length xs → floor ≤ get_or xs 0 0)
    → IsStrictlyIncreasing xs → IsRisingFrom floor xs
rising_from floor [] low up = tt
rising_from floor (x ∷ rest) low up = (
  low (omega arith),
  rising_from (x + 1) rest (λ some. omega (
    arith,
    up 0 (omega arith),
    at_next x rest 0,
  )) (increasing_rest x rest up),
)

pub dedup_rises : (xs : List ℕ) → IsSorted nat_cmp xs → IsRising (dedup eqb xs)
dedup_rises xs sorted = rising_from 0 (dedup eqb xs) (λ some. omega arith)
    (IsStrictlyIncreasing-dedup xs sorted)

kept_twice : (p : Bool) (q r : Bool) → p ≡ q → (p || r) ≡ (p || (q || r))
kept_twice true q r same = refl
kept_twice false q r same = ap (λ (b : Bool). b || r) same

-- a point and its repeat are the same
repeat_is : (x k t : ℕ) → eqb x k ≡ true → eqb k t ≡ eqb x t
repeat_is x k t is = ap (λ (n : ℕ). eqb n t) (sym (eqb-true x k is))

dedup_by : (k x : ℕ) (xs : List ℕ) (t : ℕ) (b : Bool) → eqb x k ≡ b
    → contains (dedup_from eqb k xs) t ≡ (eqb k t || contains xs t) →
    contains (dedup_from eqb x xs) t ≡ (eqb x t || contains xs t) →
    contains (cond b (dedup_from eqb k xs) (k ∷ dedup_from eqb x xs)) t
    ≡ (eqb k t || (eqb x t || contains xs t))
dedup_by k x xs t true is old new = old ∙ kept_twice (eqb k t) (eqb x t) (contains xs t)
    (repeat_is x k t is)
dedup_by k x xs t false is old new = ap (λ (b : Bool). eqb k t || b) new

contains-dedup_from : (k : ℕ) (xs : List ℕ) (t : ℕ) → contains (dedup_from eqb k xs) t
    ≡ (eqb k t || contains xs t)
contains-dedup_from k [] t = refl
contains-dedup_from k (x ∷ xs) t = dedup_by k x xs t (eqb x k) refl (contains-dedup_from k xs t)
    (contains-dedup_from x xs t)

pub contains-dedup : (xs : List ℕ) (t : ℕ) → contains (dedup eqb xs) t ≡ contains xs t
contains-dedup [] t = refl
contains-dedup (x ∷ xs) t = contains-dedup_from x xs t

-- lists put together have the points that some of them has
pub contains-flat_map : (lists : List (List ℕ)) (t : ℕ) → contains (flat_map (λ l. l) lists) t
    ≡ list_any (λ l. contains l t) lists
contains-flat_map [] t = refl
contains-flat_map (l ∷ rest) t = list_any-append (λ p. eqb p t) l (flat_map (λ l. l) rest)
    ∙ ap (λ (b : Bool). contains l t || b) (contains-flat_map rest t)
