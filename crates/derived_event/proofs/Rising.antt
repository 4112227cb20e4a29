-- Which rising lists of points are the points of a window.
use Rattle.std.proofs.Common.{◌≡◌, ◌⊎◌, inl, inr, ℕ, ◌+◌, ◌-◌, ◌<◌, ◌≤◌, Bool, true, false}
use Rattle.std.proofs.Common.{◌&&◌, leb, ltb, List, [], ◌∷◌, filter, refl, sym, ◌∙◌, ap}
use Rattle.std.proofs.Common.{arith}
use Rattle.std.specs.List.{range_with_len}
use Rattle.std.proofs.lemmas.Bool.Decides.{nat_tests}
use Rattle.span_algebra.specs.Normal.{IsRising, IsRisingFrom}
use Rattle.rt_base.proofs.Numbers.{le_or_above}
pub use Rattle.span_algebra.proofs.Parts.{rising_filter}
use Rattle.ground_types.specs.Members.{contains}
use Rattle.ground_types.specs.Rows.{points, ArePointsFrom}
use Rattle.ground_types.proofs.Members.{contains_hit, and_left}
pub use Rattle.ground_types.proofs.Members.{contains_filter}
use Rattle.ground_types.proofs.Points.{points_are, points_unique}

points_from : (floor : ℕ) (xs : List ℕ) → IsRisingFrom floor xs → ArePointsFrom floor xs
points_from floor [] rising = tt
points_from floor (p ∷ rest) rising = (rising.0, points_from (p + 1) rest rising.1)

from_first : (floor more : ℕ) (xs : List ℕ) → ((t : ℕ) → contains xs t ≡ true → more ≤ t)
    → ArePointsFrom floor xs → ArePointsFrom more xs
from_first floor more [] above rising = tt
from_first floor more (p ∷ rest) above rising = (above p (contains_hit p rest p refl), rising.1)

above_border : (w t : ℕ) (b : Bool) → (ltb w t && b) ≡ true → w + 1 ≤ t
above_border w t true is = grind (arith, nat_tests)
above_border w t false is = grind (arith, nat_tests)

none_inside : (w q t : ℕ) (b : Bool) → q < w → (ltb w t && leb t q && b) ≡ false
none_inside w q t true lt = grind (arith, nat_tests)
none_inside w q t false lt = grind (arith, nat_tests)

contains_none : (xs : List ℕ) → ((t : ℕ) → contains xs t ≡ false) → xs ≡ []
contains_none [] none = refl
contains_none (p ∷ rest) none = absurd (let both : true ≡ false = sym (contains_hit p rest p refl)
    ∙ none p in cc)

no_points : (test : ℕ → Bool) (w q : ℕ) → q < w → points test w q ≡ []
no_points test w q lt =
    let none : q - w ≡ 0 = omega arith in
    ap (λ (n : ℕ). filter test (range_with_len (w + 1) n)) none

pub points_of_window : (test : ℕ → Bool) (w q : ℕ) (xs : List ℕ) → (w ≤ q) ⊎ (q < w) → IsRising xs →
    ((t : ℕ) → contains xs t ≡ (ltb w t && leb t q && test t)) → xs ≡ points test w q
points_of_window test w q xs (inl le) rising each =
    let low : (t : ℕ) → contains xs t ≡ true → w + 1 ≤ t =
    λ t has. above_border w t (leb t q) (and_left (ltb w t && leb t q) (test t) (sym (each t)
    ∙ has)) in
    points_unique test w q xs (points test w q)
    (record { rising = from_first 0 (w + 1) xs low (points_from 0 xs rising); each = each })
    (points_are test w q le)
points_of_window test w q xs (inr lt) rising each =
    contains_none xs (λ t. each t ∙ none_inside w q t (test t) lt) ∙ sym (no_points test w q lt)

-- those of a rising list that lie in a window are the points of a test, where the list has the
-- points at which the test is true
pub points_by : (test : ℕ → Bool) (w q : ℕ) (xs : List ℕ) → IsRising xs
    → ((t : ℕ) → contains xs t ≡ test t) →
    filter (λ p. ltb w p && leb p q) xs ≡ points test w q
points_by test w q xs rising each =
    points_of_window test w q (filter (λ p. ltb w p && leb p q) xs) (le_or_above w q)
    (rising_filter (λ p. ltb w p && leb p q) 0 xs rising)
    (λ t. contains_filter (λ p. ltb w p && leb p q) xs t ∙ ap (λ (b : Bool). ltb w t && leb t q
    && b) (each t))
