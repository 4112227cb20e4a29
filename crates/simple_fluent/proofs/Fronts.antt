-- The fronts of rising points, and the terminations that are left.
use Rattle.std.proofs.Common.{◌≡◌, ℕ, ◌+◌, ◌<◌, ◌≤◌, Bool, true, false, cond, ◌&&◌, leb, ltb, eqb}
use Rattle.std.proofs.Common.{List, [], ◌∷◌, get_or, Option, Some, None, refl, sym, ◌∙◌}
use Rattle.std.proofs.Common.{arith}
use Rattle.std.specs.List.{AllByRecursion}
use Rattle.std.proofs.lemmas.Bool.Decides.{nat_tests}
use Rattle.span_algebra.specs.Normal.{IsRising, IsRisingFrom}
use Rattle.ground_types.specs.Members.{contains}
use Rattle.ground_types.proofs.Members.{contains_filter, contains_hit}
use Rattle.simple_fluent.specs.Rows.{IsInside}
use Rattle.simple_fluent.specs.Sweep.{after_point, terms_from}
use Rattle.simple_fluent.proofs.Inertia.{ended, ended_inside}

pub contains_low : (floor : ℕ) (xs : List ℕ) (t : ℕ) → IsRisingFrom floor xs → t < floor
    → contains xs t ≡ false
contains_low floor [] t up lt = refl
contains_low floor (p ∷ rest) t up lt =
    let no : eqb p t ≡ false = grind (arith, nat_tests, up.0) in
    rw (no, contains_low (p + 1) rest t up.1 (omega (arith, up.0))) refl

-- the list begins with the point
abbrev pub begins_at : List ℕ → ℕ → Bool
begins_at [] at = false
begins_at (p ∷ rest) at = eqb p at

-- past the front of a rising list
pub record IsAtFront (xs : List ℕ) (at : ℕ) (now : List ℕ) : Type 0 where
  pub has : contains xs at ≡ begins_at xs at
  pub later : IsRisingFrom (at + 1) now
  pub same : (t : ℕ) → at < t → contains xs t ≡ contains now t

front_by : (p : ℕ) (rest : List ℕ) (at : ℕ) (b : Bool) → eqb p at ≡ b → IsRisingFrom at (p ∷ rest)
    → IsAtFront (p ∷ rest) at (cond b rest (p ∷ rest))
front_by p rest at true is up =
    let same : p ≡ at = grind (arith, nat_tests) in
    record {
      has = rw is refl;
      later = rw (← same) up.1;
      same = λ t lt. (let no : eqb p t ≡ false = grind (arith, nat_tests) in rw no refl);
    }
front_by p rest at false is up = record {
  has = rw is (contains_low (p + 1) rest at up.1 (omega (arith, up.0)));
  later = (grind (arith, nat_tests, up.0), up.1);
  same = λ t lt. refl;
}

pub at_front : (xs : List ℕ) (at : ℕ) → IsRisingFrom at xs → IsAtFront xs at (after_point xs at)
at_front [] at up = record { has = refl; later = tt; same = λ t lt. refl }
at_front (p ∷ rest) at up = front_by p rest at (eqb p at) refl up

after_by : (p : ℕ) (rest : List ℕ) (b : Bool) → IsRising (p ∷ rest)
    → IsRising (cond b rest (p ∷ rest))
after_by p [] true up = tt
after_by p (q ∷ rest) true up = (omega arith, up.1.1)
after_by p rest false up = up

pub after_rises : (xs : List ℕ) (at : ℕ) → IsRising xs → IsRising (after_point xs at)
after_rises [] at up = tt
after_rises (p ∷ rest) at up = after_by p rest (eqb p at) up

inside_part : (above q t : ℕ) (b : Bool) → above < t → (b ≡ true → t ≤ q)
    → b ≡ ((ltb above t && leb t q) && b)
inside_part above q t true lt le = let high : t ≤ q = le refl in grind (arith, nat_tests)
inside_part above q t false lt le = grind (arith, nat_tests)

-- above the point they say when the value is terminated
pub terms_from_same : (w q : ℕ) (terms : List (List ℕ)) (v : Option ℕ) (above t : ℕ)
    → AllByRecursion (IsInside w q) terms → above < t →
    ended terms v t ≡ contains (terms_from terms v above q) t
terms_from_same w q terms None above t inside lt = refl
terms_from_same w q terms (Some v) above t inside lt =
    inside_part above q t (contains (get_or terms v []) t) lt
    (λ is. (ended_inside w q terms (Some v) t inside is).within)
    ∙ sym (contains_filter (λ u. ltb above u && leb u q) (get_or terms v []) t)

test_above : (above q t : ℕ) (b : Bool) → ((ltb above t && leb t q) && b) ≡ true → above < t
test_above above q t b is = grind (arith, nat_tests)

above_by : (above q : ℕ) (all xs : List ℕ)
    → ((t : ℕ) → contains xs t ≡ ((ltb above t && leb t q) && contains all t)) → IsRising xs
    → IsRisingFrom (above + 1) xs
above_by above q all [] same up = tt
above_by above q all (p ∷ rest) same up =
    let lt : above < p = test_above above q p (contains all p) (sym (same p)
    ∙ contains_hit p rest p refl)
    in
    (omega arith, up.1)

-- and lie above it
pub terms_from_rise : (terms : List (List ℕ)) (v : Option ℕ) (above q : ℕ)
    → IsRising (terms_from terms v above q) →
    IsRisingFrom (above + 1) (terms_from terms v above q)
terms_from_rise terms None above q up = tt
terms_from_rise terms (Some v) above q up =
    above_by above q (get_or terms v []) (terms_from terms (Some v) above q)
    (λ t. contains_filter (λ u. ltb above u && leb u q) (get_or terms v []) t) up
