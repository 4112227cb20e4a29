-- A point that is taken away from rising points.
use Rattle.std.proofs.Common.{◌≡◌, ℕ, zero, suc, ◌+◌, ◌<◌, ◌≤◌, Bool, true, false, not, ◌||◌, ◌&&◌}
use Rattle.std.proofs.Common.{eqb, List, [], ◌∷◌, length, get_or, refl, sym, ◌∙◌, ap, arith, subst}
use Rattle.std.proofs.Common.{Result, Ok}
use Rattle.std.proofs.Math.Bool.{and-true}
use Rattle.std.proofs.lemmas.Bool.Decides.{nat_tests}
use Rattle.std.proofs.lemmas.List.Sorted.{searched}
use Rattle.std.specs.List.{remove}
use Rattle.std.specs.List.Sorted.{IsBinarySearchResult}
use Rattle.std.specs.Ordering.{nat_cmp}
use Rattle.span_algebra.specs.Normal.{IsRising, IsRisingFrom, has}
use Rattle.span_algebra.proofs.Having.{point_above, points_rise, has_floor}
use Rattle.span_algebra.proofs.Parts.{rising_lower}

-- those that are left rise
pub rising_remove : (i floor : ℕ) (xs : List ℕ) → IsRisingFrom floor xs
    → IsRisingFrom floor (remove xs i)
rising_remove zero floor [] rising = tt
rising_remove (suc i) floor [] rising = tt
rising_remove zero floor (p ∷ rest) rising = rising_lower (p + 1) floor rest rising.1
    (omega (arith, rising.0))
rising_remove (suc i) floor (p ∷ rest) rising = (rising.0, rising_remove i (p + 1) rest rising.1)

-- the first point goes: it is not among those after it
first_gone : (p x t : ℕ) (b c : Bool) → p ≡ x → eqb p t ≡ c → (t ≡ p → b ≡ false)
    → b ≡ ((c || b) && not (eqb t x))
first_gone p x t true true same is none = absurd (let at : t ≡ p = grind (arith, nat_tests) in
    let both : true ≡ false = none at in cc)
first_gone p x t false true same is none = grind (arith, nat_tests)
first_gone p x t b false same is none =
    let other : eqb t x ≡ false = grind (arith, nat_tests) in
    rw other (sym (and-true b))

-- the first point stays: it lies below the one that goes
first_stays : (p x t : ℕ) (b : Bool) → p < x → (eqb p t || (b && not (eqb t x)))
    ≡ ((eqb p t || b) && not (eqb t x))
first_stays p x t true low = grind (arith, nat_tests)
first_stays p x t false low = grind (arith, nat_tests)

-- its points are those before but that one
pub has_remove : (i floor : ℕ) (xs : List ℕ) (x t : ℕ) → IsRisingFrom floor xs → i < length xs
    → get_or xs i 0 ≡ x →
    has (remove xs i) t ≡ (has xs t && not (eqb t x))
has_remove i floor [] x t rising within at = absurd (omega arith)
has_remove zero floor (p ∷ rest) x t rising within at =
    first_gone p x t (has rest t) (eqb p t) at refl (λ is. has_floor (p + 1) rest t rising.1
    (omega arith))
has_remove (suc i) floor (p ∷ rest) x t rising within at =
    let above : p + 1 ≤ get_or rest i 0 = point_above (p + 1) rest i rising.1 (omega arith) in
    ap (λ (b : Bool). eqb p t || b) (has_remove i (p + 1) rest x t rising.1 (omega arith) at)
    ∙ first_stays p x t (has rest t) (omega (arith, above))

-- the same at the place that a search by halves answers in a list that is the same
pub has_without : (searched_list within now : List ℕ) (x i : ℕ) (r : Result ℕ ℕ)
    → searched_list ≡ within → within ≡ now → IsRising within → r ≡ Ok i →
    IsBinarySearchResult (λ y. nat_cmp y x) searched_list r → (t : ℕ) → has (remove within i) t
    ≡ (has now t && not (eqb t x))
has_without searched_list within now x i r same is rising answer found t =
    let in_it : IsBinarySearchResult (λ y. nat_cmp y x) within (Ok i) =
    subst (λ (l : List ℕ). IsBinarySearchResult (λ y. nat_cmp y x) l (Ok i)) same
    (subst (λ (q : Result ℕ ℕ). IsBinarySearchResult (λ y. nat_cmp y x) searched_list q) answer
    found) in
    let place = searched within x (Ok i) in_it (points_rise 0 within rising) in
    has_remove i 0 within x t rising place.0 place.1
    ∙ ap (λ (l : List ℕ). has l t && not (eqb t x)) is

-- a point that is not there is not missed
missed : (a b : Bool) → (b ≡ true → a ≡ false) → a ≡ (a && not b)
missed true true is = is refl
missed true false is = refl
missed false b is = refl

pub has_without_other : (xs : List ℕ) (x : ℕ) → has xs x ≡ false → (t : ℕ)
    → has xs t ≡ (has xs t && not (eqb t x))
has_without_other xs x none t = missed (has xs t) (eqb t x)
    (λ is. (let same : x ≡ t = grind (arith, nat_tests) in ap (has xs) (sym same) ∙ none))
