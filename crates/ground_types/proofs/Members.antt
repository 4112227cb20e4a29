-- Which numbers a list contains.
use Rattle.std.proofs.Common.{◌≡◌, ◌⊎◌, inl, inr, ℕ, ◌<◌, Bool, true, false, ◌&&◌, ◌||◌, eqb, List}
use Rattle.std.proofs.Common.{[], ◌∷◌, ◌++◌, filter, refl, sym, ◌∙◌, ap, arith, subst}
use Rattle.std.specs.List.{list_all}
use Rattle.std.proofs.lemmas.Bool.{and_parts, or_left, or_right, or_cases}
use Rattle.std.proofs.lemmas.Bool.Decides.{nat_tests}
use Rattle.std.proofs.lemmas.List.Folds.{list_any-append}
use Rattle.std.proofs.lemmas.Map.Views.{any-filter_same}
use Rattle.ground_types.specs.Members.{contains}

pub contains_hit : (x : ℕ) (rest : List ℕ) (t : ℕ) → x ≡ t → contains (x ∷ rest) t ≡ true
contains_hit x rest t at = grind (arith, nat_tests)

pub contains_miss : (x : ℕ) (rest : List ℕ) (t : ℕ) → (t < x) ⊎ (x < t) → contains (x ∷ rest) t
    ≡ contains rest t
contains_miss x rest t (inl low) = grind (arith, nat_tests)
contains_miss x rest t (inr high) = grind (arith, nat_tests)

-- the two parts of std's `and_parts`, each alone
pub and_left : (a b : Bool) → (a && b) ≡ true → a ≡ true
and_left a b is = (and_parts a b is).0

pub and_right : (a b : Bool) → (a && b) ≡ true → b ≡ true
and_right a b is = (and_parts a b is).1

or_neither : (a b : Bool) → (a || b) ≡ false → (a ≡ false) × (b ≡ false)
or_neither true b is = cc
or_neither false b is = (refl, is)

contains_append : (xs ys : List ℕ) (t : ℕ) → contains (xs ++ ys) t
    ≡ (contains xs t || contains ys t)
contains_append xs ys t = list_any-append (λ y. eqb y t) xs ys

pub contains_left : (xs ys : List ℕ) (t : ℕ) → contains xs t ≡ true → contains (xs ++ ys) t ≡ true
contains_left xs ys t is = contains_append xs ys t ∙ or_left (contains xs t) (contains ys t) is

pub contains_right : (xs ys : List ℕ) (t : ℕ) → contains ys t ≡ true → contains (xs ++ ys) t ≡ true
contains_right xs ys t is = contains_append xs ys t ∙ or_right (contains xs t) (contains ys t) is

pub contains_either : (xs ys : List ℕ) (t : ℕ) → contains (xs ++ ys) t ≡ true
    → (contains xs t ≡ true) ⊎ (contains ys t ≡ true)
contains_either xs ys t is = or_cases (contains xs t) (contains ys t)
    (sym (contains_append xs ys t) ∙ is)

pub contains_neither : (xs ys : List ℕ) (t : ℕ) → contains (xs ++ ys) t ≡ false
    → (contains xs t ≡ false) × (contains ys t ≡ false)
contains_neither xs ys t is = or_neither (contains xs t) (contains ys t)
    (sym (contains_append xs ys t) ∙ is)

first_by : (x : ℕ) (rest : List ℕ) (t : ℕ) → (eqb x t ≡ true) ⊎ (contains rest t ≡ true) → (x ≡ t)
    ⊎ (contains rest t ≡ true)
first_by x rest t (inl at) = inl (grind (arith, nat_tests))
first_by x rest t (inr is) = inr is

-- a number of a list is the first or one of the rest
pub first_or_rest : (x : ℕ) (rest : List ℕ) (t : ℕ) → contains (x ∷ rest) t ≡ true → (x ≡ t)
    ⊎ (contains rest t ≡ true)
first_or_rest x rest t is = first_by x rest t (or_cases (eqb x t) (contains rest t) is)

each_by : (test : ℕ → Bool) (x : ℕ) (rest : List ℕ) (t : ℕ) → list_all test (x ∷ rest) ≡ true
    → (x ≡ t) ⊎ (contains rest t ≡ true) →
    (contains rest t ≡ true → test t ≡ true) → test t ≡ true
each_by test x rest t all (inl at) go = subst (λ (m : ℕ). test m ≡ true) at
    (and_left (test x) (list_all test rest) all)
each_by test x rest t all (inr is) go = go is

-- a test that all of a list pass is passed by each number of it
pub each_of_all : (test : ℕ → Bool) (xs : List ℕ) (t : ℕ) → list_all test xs ≡ true
    → contains xs t ≡ true → test t ≡ true
each_of_all test [] t all is = cc
each_of_all test (x ∷ rest) t all is = each_by test x rest t all (first_or_rest x rest t is)
    (λ later. each_of_all test rest t (and_right (test x) (list_all test rest) all) later)

-- a filter leaves the numbers that pass
pub contains_filter : (test : ℕ → Bool) (xs : List ℕ) (t : ℕ) → contains (filter test xs) t
    ≡ (test t && contains xs t)
contains_filter test xs t =
    any-filter_same (λ y. eqb y t) test (test t) (λ k is. (let same : k ≡ t =
    grind (arith, nat_tests) in ap test same)) xs
