-- The units of a layer in their order: the first that is not claimed is the lowest.
use Rattle.std.proofs.Common.{◌≡◌, inl, inr, ℕ, zero, suc, ◌+◌, ◌<◌, ◌≤◌, Bool, true, false, cond}
use Rattle.std.proofs.Common.{eqb, List, [], ◌∷◌, ◌++◌, length, take, get_or, find}
use Rattle.std.proofs.Common.{slice_get, Option, Some, None, refl, sym, ◌∙◌, ap, subst, arith}
use Rattle.std.proofs.Common.{take_all, ◌⊎◌}
use Rattle.std.specs.List.{range_with_len, IsDistinct, AllByRecursion}
use Rattle.std.proofs.lemmas.Bool.{cases_lt, or_right, or_parts, and_parts}
use Rattle.std.proofs.lemmas.Bool.Decides.{nat_tests}
use Rattle.std.proofs.lemmas.List.{get_or-take, length-take}
use Rattle.std.proofs.lemmas.List.Folds.{list_any_at}
use Rattle.std.proofs.lemmas.List.Sorted.{list_any-IsPermutation, IsPermutation-refl}
use Rattle.std.proofs.lemmas.Option.{same_Some, get_or_from_slice_get, slice_get_within, slice_get_past}
use Rattle.ground_types.specs.Meaning.{is_layer, are_layers}
use Rattle.ground_types.specs.Members.{contains}
use Rattle.ground_types.specs.declared.program.Program.{Program}
use Rattle.ground_types.proofs.Members.{contains_hit, first_or_rest}
use Rattle.delay_revise.proofs.LayerParts.{IsFirstUnit, first_unit}
use Rattle.system_core.specs.Core.{units_of}
use Rattle.system_core.specs.Claiming.{IsInOrder, AreInOrder}
use Rattle.system_core.proofs.Places.{get_left, get_last}

-- ---- the first number that passes a test

first_by : (p : ℕ → Bool) (from n m : ℕ) (b : Bool) → p from ≡ b → from ≤ m → m < from + suc n
    → p m ≡ true → ((y : ℕ) → y < m → p y ≡ false)
    → (from + 1 ≤ m → find p (range_with_len (from + 1) n) ≡ Some m)
    → cond b (Some from) (find p (range_with_len (from + 1) n)) ≡ Some m
first_by p from n m true at low high here before later =
    elim (cases_lt from m) [
      | inl lt ↦ (let no : p from ≡ false = before from lt in cc)
      | inr le ↦ (let same : from ≡ m = omega arith in ap Some same)
    ]
first_by p from n m false at low high here before later =
    elim (cases_lt from m) [
      | inl lt ↦ later (omega arith)
      | inr le ↦ (let same : from ≡ m = omega arith in let no : p m ≡ false = ap p (sym same) ∙ at in cc)
    ]

pub find_first : (p : ℕ → Bool) (from n m : ℕ) → from ≤ m → m < from + n → p m ≡ true
    → ((y : ℕ) → y < m → p y ≡ false) → find p (range_with_len from n) ≡ Some m
find_first p from zero m low high here before = absurd (omega (arith, low, high))
find_first p from (suc n) m low high here before =
    first_by p from n m (p from) refl low high here before
    (λ le. find_first p (from + 1) n m le (omega (arith, high)) here before)

pub find_none : (p : ℕ → Bool) (xs : List ℕ) → ((y : ℕ) → p y ≡ false) → find p xs ≡ None
find_none p [] none = refl
find_none p (x ∷ xs) none =
    ap (λ (b : Bool). cond b (Some x) (find p xs)) (none x) ∙ find_none p xs none

-- ---- places in a list

equal_self : (x : ℕ) → eqb x x ≡ true
equal_self x = grind (arith, nat_tests)

same_equal : (x y : ℕ) → eqb x y ≡ true → x ≡ y
same_equal x y is = grind (arith, nat_tests)

pub contains_at : (xs : List ℕ) (i : ℕ) → i < length xs → contains xs (get_or xs i 0) ≡ true
contains_at xs i within =
    list_any_at (λ y. eqb y (get_or xs i 0)) xs i 0 within (equal_self (get_or xs i 0))

-- a number of a list stands at a place of it
pub record IsPlaced (xs : List ℕ) (x : ℕ) : Type 0 where
  pub place : ℕ
  pub within : place < length xs
  pub there : get_or xs place 0 ≡ x

placed_from : (y : ℕ) (ys : List ℕ) (x : ℕ) → (y ≡ x) ⊎ (contains ys x ≡ true)
    → (contains ys x ≡ true → IsPlaced ys x) → IsPlaced (y ∷ ys) x
placed_from y ys x (inl same) later = record {
  place = zero;
  within = omega arith;
  there = same;
}
placed_from y ys x (inr is) later =
    let at = later is in
    record { place = suc at.place; within = omega (arith, at.within); there = at.there }

pub placed : (xs : List ℕ) (x : ℕ) → contains xs x ≡ true → IsPlaced xs x
placed [] x is = cc
placed (y ∷ ys) x is = placed_from y ys x (first_or_rest y ys x is) (placed ys x)

of_take_by : (y : ℕ) (ys more : List ℕ) (x : ℕ) → (y ≡ x) ⊎ (contains more x ≡ true)
    → (contains more x ≡ true → contains ys x ≡ true) → contains (y ∷ ys) x ≡ true
of_take_by y ys more x (inl same) later = contains_hit y ys x same
of_take_by y ys more x (inr is) later = or_right (eqb y x) (contains ys x) (later is)

pub contains_of_take : (n : ℕ) (xs : List ℕ) (x : ℕ) → contains (take n xs) x ≡ true
    → contains xs x ≡ true
contains_of_take zero xs x is = cc
contains_of_take (suc n) [] x is = cc
contains_of_take (suc n) (y ∷ ys) x is =
    of_take_by y ys (take n ys) x (first_or_rest y (take n ys) x is) (contains_of_take n ys x)

-- ---- units in their order

pub false_from : (b : Bool) → (b ≡ true → ⊥) → b ≡ false
false_from true never = absurd (never refl)
false_from false never = refl

module _ (units ordered : List ℕ) (o : IsInOrder units ordered) where
  pub alike : (x : ℕ) → contains units x ≡ contains ordered x
  alike x = list_any-IsPermutation (λ y. eqb y x) units ordered o.same

  rises_to : (i j : ℕ) → i < j → j < length ordered → get_or ordered i 0 < get_or ordered j 0
  rises_to i j lt within =
      let next = o.rises i (omega (arith, lt, within)) in
      let later = o.falls_never (i + 1) j 0 (omega (arith, lt)) within in
      omega (arith, next, later)

  -- one of the first ones stands before the later ones
  not_taken : (n : ℕ) → n < length ordered → contains (take n ordered) (get_or ordered n 0) ≡ true
      → ⊥
  not_taken n within is =
      let at = placed (take n ordered) (get_or ordered n 0) is in
      let low : at.place < n = omega (arith, at.within, length-take n ordered) in
      let same : get_or ordered at.place 0 ≡ get_or ordered n 0 =
      sym (get_or-take n ordered at.place 0 low) ∙ at.there in
      omega (arith, rises_to at.place n low within, same)

  pub not_claimed : (n m : ℕ) → slice_get ordered n ≡ Some m
      → contains (take n ordered) m ≡ false
  not_claimed n m at =
      let same : get_or ordered n 0 ≡ m = get_or_from_slice_get ordered n m 0 at in
      false_from (contains (take n ordered) m)
      (λ is. not_taken n (slice_get_within ordered n m at)
      (subst (λ (x : ℕ). contains (take n ordered) x ≡ true) (sym same) is))

  pub of_units : (n m : ℕ) → slice_get ordered n ≡ Some m → contains units m ≡ true
  of_units n m at =
      let same : get_or ordered n 0 ≡ m = get_or_from_slice_get ordered n m 0 at in
      alike m
      ∙ subst (λ (x : ℕ). contains ordered x ≡ true) same
      (contains_at ordered n (slice_get_within ordered n m at))

  lower_by : (n m y : ℕ) → slice_get ordered n ≡ Some m → y < m → (at : IsPlaced ordered y)
      → contains (take n ordered) y ≡ true
  lower_by n m y here lt at =
      let same : get_or ordered n 0 ≡ m = get_or_from_slice_get ordered n m 0 here in
      let within : n < length ordered = slice_get_within ordered n m here in
      let low : at.place < n = elim (cases_lt at.place n) [
        | inl less ↦ less
        | inr more ↦ absurd (omega (
          arith,
          o.falls_never n at.place 0 more at.within,
          at.there,
          same,
          lt,
        ))
      ] in
      let long : at.place < length (take n ordered) =
      omega (arith, low, within, length-take n ordered) in
      let there : get_or (take n ordered) at.place 0 ≡ y =
      get_or-take n ordered at.place 0 low ∙ at.there in
      subst (λ (x : ℕ). contains (take n ordered) x ≡ true) there
      (contains_at (take n ordered) at.place long)

  -- a lower unit is one of the first ones
  pub lower : (n m y : ℕ) → slice_get ordered n ≡ Some m → y < m → contains units y ≡ true
      → contains (take n ordered) y ≡ true
  lower n m y here lt is = lower_by n m y here lt (placed ordered y (sym (alike y) ∙ is))

  -- past the last one all are among the first ones
  pub all_taken : (n y : ℕ) → length ordered ≤ n → contains units y ≡ true
      → contains (take n ordered) y ≡ true
  all_taken n y past is =
      subst (λ (l : List ℕ). contains l y ≡ true) (sym (take_all n ordered past))
      (sym (alike y) ∙ is)

  pub only_units : (n y : ℕ) → contains (take n ordered) y ≡ true → contains units y ≡ true
  only_units n y is = alike y ∙ contains_of_take n ordered y is

-- ---- each unit stands once in its layer

apart_all : (x : ℕ) (xs : List ℕ) → contains xs x ≡ false → AllByRecursion (λ y. eqb x y ≡ false) xs
apart_all x [] none = tt
apart_all x (y ∷ ys) none =
    let both = or_parts (eqb y x) (contains ys x) none in
    let turned : eqb x y ≡ eqb y x = grind (arith, nat_tests) in
    (turned ∙ both.0, apart_all x ys both.1)

distinct_layer : (program : Program) (below units : List ℕ) → is_layer program below units ≡ true
    → IsDistinct eqb units
unfolding IsDistinct
distinct_layer program below [] is = tt
distinct_layer program below (x ∷ xs) is =
    let first : IsFirstUnit program below x xs = first_unit program below x xs is in
    (apart_all x xs first.once, distinct_layer program below xs first.others)

pub distinct_at : (program : Program) (below : List ℕ) (layers : List (List ℕ)) (layer : ℕ)
    (o : Option (List ℕ)) → are_layers program below layers ≡ true → slice_get layers layer ≡ o
    → IsDistinct eqb (units_of o)
unfolding IsDistinct
distinct_at program below layers layer None are at = tt
distinct_at program below [] layer (Some units) are at = cc
distinct_at program below (first ∷ rest) zero (Some units) are at =
    subst (IsDistinct eqb) (same_Some first units at) (distinct_layer program below first
    (and_parts (is_layer program below first) (are_layers program (below ++ first) rest) are).0)
distinct_at program below (first ∷ rest) (suc layer) (Some units) are at =
    distinct_at program (below ++ first) rest layer (Some units)
    (and_parts (is_layer program below first) (are_layers program (below ++ first) rest) are).1 at

-- ---- the layers, one after the other

pub in_order_more : (layers ordered : List (List ℕ)) (index : ℕ) (row sorted : List ℕ)
    → length ordered ≡ index → slice_get layers index ≡ Some row → IsInOrder row sorted
    → ((layer : ℕ) → layer < index
    → IsInOrder (units_of (slice_get layers layer)) (units_of (slice_get ordered layer)))
    → (layer : ℕ) → layer < index + 1
    → IsInOrder (units_of (slice_get layers layer))
    (units_of (slice_get (ordered ++ sorted ∷ []) layer))
in_order_more layers ordered index row sorted long at is each layer within =
    elim (cases_lt layer index) [
      | inl less ↦ subst (λ (o : Option (List ℕ)). IsInOrder (units_of (slice_get layers layer))
          (units_of o)) (sym (get_left ordered (sorted ∷ []) layer (omega (arith, less, long))))
          (each layer less)
      | inr more ↦ (let same : layer ≡ index = omega arith in
          let last : slice_get (ordered ++ sorted ∷ []) layer ≡ Some sorted =
          ap (slice_get (ordered ++ sorted ∷ [])) (same ∙ sym long) ∙ get_last ordered sorted in
          subst (λ (o : Option (List ℕ)). IsInOrder (units_of (slice_get layers layer))
          (units_of o)) (sym last)
          (subst (λ (o : Option (List ℕ)). IsInOrder (units_of o) sorted)
          (sym at ∙ ap (slice_get layers) (sym same)) is))
    ]

none_in_order : IsInOrder [] []
none_in_order = record {
  same = IsPermutation-refl [];
  falls_never = λ i j d le lt. absurd (omega (arith, lt));
  rises = λ k lt. absurd (omega (arith, lt));
}

pub in_order_all : (layers ordered : List (List ℕ)) (n : ℕ) → length ordered ≡ n
    → length layers ≤ n → ((layer : ℕ) → layer < n
    → IsInOrder (units_of (slice_get layers layer)) (units_of (slice_get ordered layer)))
    → AreInOrder layers ordered
in_order_all layers ordered n long past each layer =
    elim (cases_lt layer n) [
      | inl less ↦ each layer less
      | inr more ↦ subst (λ (o : Option (List ℕ)). IsInOrder (units_of o)
          (units_of (slice_get ordered layer)))
          (sym (slice_get_past layers layer (omega (arith, past, more))))
          (subst (λ (o : Option (List ℕ)). IsInOrder [] (units_of o))
          (sym (slice_get_past ordered layer (omega (arith, long, more)))) none_in_order)
    ]
