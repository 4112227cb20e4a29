-- A point that goes to its place among rising points.
use Rattle.std.proofs.Common.{◌≡◌, ℕ, zero, suc, ◌+◌, ◌<◌, ◌≤◌, Bool, true, false, ◌||◌, eqb, List}
use Rattle.std.proofs.Common.{[], ◌∷◌, length, get_or, refl, sym, ◌∙◌, ap, arith, subst, Result}
use Rattle.std.proofs.Common.{Err}
use Rattle.std.proofs.Math.Bool.{or_assoc}
use Rattle.std.proofs.lemmas.Bool.Decides.{nat_tests}
use Rattle.std.proofs.lemmas.List.Sorted.{searched}
use Rattle.std.specs.List.{insert}
use Rattle.std.specs.List.Sorted.{IsBinarySearchResult}
use Rattle.std.specs.Ordering.{nat_cmp}
use Rattle.std.specs.Prelude.{is_ok}
use Rattle.span_algebra.specs.Normal.{IsRising, IsRisingFrom, has}
use Rattle.span_algebra.proofs.Having.{points_rise, has_found}

or_swap : (x t : ℕ) (b : Bool) → (eqb x t || b) ≡ (b || eqb t x)
or_swap x t true = grind (arith, nat_tests)
or_swap x t false = grind (arith, nat_tests)

-- its points are those before and the new one
pub has_insert : (i : ℕ) (xs : List ℕ) (x t : ℕ) → has (insert xs i x) t ≡ (has xs t || eqb t x)
has_insert zero xs x t = or_swap x t (has xs t)
has_insert (suc i) [] x t = or_swap x t false
has_insert (suc i) (p ∷ rest) x t = ap (λ (b : Bool). eqb p t || b) (has_insert i rest x t)
    ∙ sym (or_assoc (eqb p t) (has rest t) (eqb t x))

-- where it lies above those before its place and below those after it, they rise
pub rising_insert : (i floor : ℕ) (xs : List ℕ) (x : ℕ) → IsRisingFrom floor xs → floor ≤ x
    → ((k : ℕ) → k < i → get_or xs k 0 < x) →
    ((k : ℕ) → i ≤ k → k < length xs → x < get_or xs k 0) → IsRisingFrom floor (insert xs i x)
rising_insert zero floor [] x rising le below above = (le, tt)
rising_insert zero floor (p ∷ rest) x rising le below above =
    (le, (omega (arith, above 0 (omega arith) (omega arith)), rising.1))
rising_insert (suc i) floor [] x rising le below above = (le, tt)
rising_insert (suc i) floor (p ∷ rest) x rising le below above = (
  rising.0,
  rising_insert i (p + 1) rest x rising.1 (omega (arith, below 0 (omega arith)))
      (λ k lt. below (suc k) (omega arith)) (λ k more lt. above (suc k) (omega arith)
      (omega arith)),
)

-- the same at the place that a search by halves answers in a list that is the same
pub rising_found : (searched_list within : List ℕ) (x i : ℕ) (r : Result ℕ ℕ)
    → searched_list ≡ within → IsRising within → r ≡ Err i →
    IsBinarySearchResult (λ y. nat_cmp y x) searched_list r → IsRising (insert within i x)
rising_found searched_list within x i r same rising answer found =
    let in_it : IsBinarySearchResult (λ y. nat_cmp y x) within (Err i) =
    subst (λ (l : List ℕ). IsBinarySearchResult (λ y. nat_cmp y x) l (Err i)) same
    (subst (λ (q : Result ℕ ℕ). IsBinarySearchResult (λ y. nat_cmp y x) searched_list q) answer
    found) in
    let place = searched within x (Err i) in_it (points_rise 0 within rising) in
    rising_insert i 0 within x rising (omega arith) place.1 place.2

-- a point that is there is there once more
or_there : (a b : Bool) → (b ≡ true → a ≡ true) → a ≡ (a || b)
or_there true b is = refl
or_there false true is = is refl
or_there false false is = refl

pub has_there : (xs : List ℕ) (x : ℕ) → has xs x ≡ true → (t : ℕ) → has xs t ≡ (has xs t || eqb t x)
has_there xs x there t = or_there (has xs t) (eqb t x)
    (λ is. (let same : x ≡ t = grind (arith, nat_tests) in ap (has xs) (sym same) ∙ there))

-- what a search by halves answers in a list that is the same
pub found_is : (searched_list within now : List ℕ) (x : ℕ) (r q : Result ℕ ℕ)
    → searched_list ≡ within → within ≡ now → IsRising within → r ≡ q →
    IsBinarySearchResult (λ y. nat_cmp y x) searched_list r → is_ok q ≡ has now x
found_is searched_list within now x r q same is rising answer found =
    ap is_ok (sym answer) ∙ has_found searched_list x r (subst IsRising (sym same) rising) found
    ∙ ap (λ (l : List ℕ). has l x) (same ∙ is)
