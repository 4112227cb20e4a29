-- What claims hold stays so over each of their calls.
use Rattle.std.proofs.Common.{◌≡◌, ◌⊎◌, inl, inr, ℕ, zero, suc, ◌+◌, ◌-◌, ◌<◌, ◌≤◌, Bool, true, false}
use Rattle.std.proofs.Common.{cond, not, ◌&&◌, ◌||◌, eqb, List, [], ◌∷◌, ◌++◌, length, take}
use Rattle.std.proofs.Common.{slice_get, slice_set, replicate, Option, Some, None}
use Rattle.std.proofs.Common.{refl, sym, ◌∙◌, ap, ap₂, subst, arith, length-append}
use Rattle.std.specs.Prelude.{count_by}
use Rattle.std.specs.List.{list_all, range_with_len, slice_index_or, IsDistinct}
use Rattle.std.specs.List.{AllByRecursion}
use Rattle.std.proofs.lemmas.Bool.{cases_lt, or_right, and_parts}
use Rattle.std.proofs.lemmas.Bool.Decides.{nat_tests}
use Rattle.std.proofs.lemmas.List.{length-set, get_or-set_same, get_or-set_other, take_more}
use Rattle.std.proofs.lemmas.List.Folds.{list_any-append, sum_by-zero}
use Rattle.std.proofs.lemmas.List.Sums.{sum_by-cons}
use Rattle.std.proofs.lemmas.Option.{get_or_from_slice_get, slice_get_within, slice_get_past}
use Rattle.ground_types.specs.Members.{contains}
use Rattle.ground_types.specs.Sound.{IsSound}
use Rattle.ground_types.specs.declared.program.Program.{Program}
use Rattle.ground_types.proofs.Members.{contains_hit, contains_miss, contains_left, contains_either}
use Rattle.ground_types.proofs.Members.{first_or_rest, each_of_all}
use Rattle.delay_revise.proofs.KeptUnits.{layer_known}
use Rattle.system_core.specs.Core.{Revision, open_layer, units_of, layer_units, is_worked, is_finished}
use Rattle.system_core.specs.Core.{has_layer, lowest_unclaimed}
use Rattle.system_core.specs.Claiming.{Claiming, IsInOrder, AreInOrder, IsClaiming, is_left}
use Rattle.system_core.proofs.Ordered.{find_first, find_none, not_claimed, of_units, lower}
use Rattle.system_core.proofs.Ordered.{all_taken, only_units, distinct_at, false_from}

-- ---- units of a layer are units of the program

known_by : (program : Program) (layer : ℕ) (unit : ℕ) (o : Option (List ℕ)) → IsSound program
    → slice_get program.layers layer ≡ o → contains (units_of o) unit ≡ true
    → unit < length program.units
known_by program layer unit None sound at is = cc
known_by program layer unit (Some units) sound at is = layer_known program layer units unit sound
    at is

pub known : (program : Program) (layer unit : ℕ) → IsSound program
    → contains (layer_units program layer) unit ≡ true → unit < length program.units
known program layer unit sound is =
    known_by program layer unit (slice_get program.layers layer) sound refl is

-- ---- which unit is the next

from_not : (b : Bool) → not b ≡ true → b ≡ false
from_not true is = cc
from_not false is = refl

turn : {x y : ℕ} → (x < y) ⊎ (y < x) → (y < x) ⊎ (x < y)
turn (inl less) = inr less
turn (inr more) = inl more

and_first : (a b : Bool) → a ≡ false → (a && b) ≡ false
and_first true b is = cc
and_first false b is = refl

and_not : (a b : Bool) → (a ≡ true → b ≡ true) → (a && not b) ≡ false
and_not false b later = refl
and_not true b later = ap not (later refl)

past_from : (xs : List ℕ) (n : ℕ) → slice_get xs n ≡ None → length xs ≤ n
past_from [] n at = omega arith
past_from (x ∷ xs) zero at = cc
past_from (x ∷ xs) (suc n) at = omega (arith, past_from xs n at)

module _ (c : Claiming) (ordered : List (List ℕ)) (worked : List Bool) (left : ℕ)
    (is : IsClaiming c ordered worked left) where
  claimed_are : (x : ℕ) → contains c.revision.claimed x
      ≡ contains (take (length c.revision.claimed) (units_of (slice_get ordered c.revision.layer))) x
  claimed_are x = ap (λ (l : List ℕ). contains l x) is.lowest

  pub claimed_units : (x : ℕ) → contains c.revision.claimed x ≡ true
      → contains (layer_units c.program c.revision.layer) x ≡ true
  claimed_units x among =
      only_units (layer_units c.program c.revision.layer)
      (units_of (slice_get ordered c.revision.layer)) (is.in_order c.revision.layer)
      (length c.revision.claimed) x (sym (claimed_are x) ∙ among)

  pub next_some : (m : ℕ) → slice_get (units_of (slice_get ordered c.revision.layer))
      (length c.revision.claimed) ≡ Some m → lowest_unclaimed c.program c.revision ≡ Some m
  next_some m at =
      let o : IsInOrder (layer_units c.program c.revision.layer)
      (units_of (slice_get ordered c.revision.layer)) = is.in_order c.revision.layer in
      let there = of_units (layer_units c.program c.revision.layer)
      (units_of (slice_get ordered c.revision.layer)) o (length c.revision.claimed) m at in
      let free : contains c.revision.claimed m ≡ false =
      claimed_are m ∙ not_claimed (layer_units c.program c.revision.layer)
      (units_of (slice_get ordered c.revision.layer)) o (length c.revision.claimed) m at in
      find_first
      (λ unit. contains (layer_units c.program c.revision.layer) unit
      && not (contains c.revision.claimed unit)) 0 (length c.program.units) m (omega arith)
      (omega (arith, known c.program c.revision.layer m is.sound there))
      (ap₂ (λ (a b : Bool). a && not b) there free)
      (λ y lt. and_not (contains (layer_units c.program c.revision.layer) y)
      (contains c.revision.claimed y)
      (λ among. claimed_are y ∙ lower (layer_units c.program c.revision.layer)
      (units_of (slice_get ordered c.revision.layer)) o (length c.revision.claimed) m y at lt
      among))

  pub next_none : slice_get (units_of (slice_get ordered c.revision.layer))
      (length c.revision.claimed) ≡ None → lowest_unclaimed c.program c.revision ≡ None
  next_none at =
      find_none
      (λ unit. contains (layer_units c.program c.revision.layer) unit
      && not (contains c.revision.claimed unit)) (range_with_len 0 (length c.program.units))
      (λ y. and_not (contains (layer_units c.program c.revision.layer) y)
      (contains c.revision.claimed y)
      (λ among. claimed_are y ∙ all_taken (layer_units c.program c.revision.layer)
      (units_of (slice_get ordered c.revision.layer)) (is.in_order c.revision.layer)
      (length c.revision.claimed) y (past_from (units_of (slice_get ordered c.revision.layer))
      (length c.revision.claimed) at) among))

  pub next_is : (o : Option ℕ) → o ≡ slice_get (units_of (slice_get ordered c.revision.layer))
      (length c.revision.claimed) → o ≡ lowest_unclaimed c.program c.revision
  next_is None at = sym (next_none (sym at))
  next_is (Some m) at = sym (next_some m (sym at))

-- ---- one unit more is claimed

pub contains_last : (xs : List ℕ) (x : ℕ) → contains (xs ++ x ∷ []) x ≡ true
contains_last xs x =
    list_any-append (λ y. eqb y x) xs (x ∷ [])
    ∙ or_right (contains xs x) (contains (x ∷ []) x) (contains_hit x [] x refl)

pub contains_other : (xs : List ℕ) (x y : ℕ) → (x < y) ⊎ (y < x)
    → contains (xs ++ y ∷ []) x ≡ contains xs x
contains_other [] x y apart = contains_miss y [] x apart
contains_other (z ∷ zs) x y apart = ap (λ (b : Bool). eqb z x || b) (contains_other zs x y apart)

last_or_before : (xs : List ℕ) (x y : ℕ) → contains (xs ++ y ∷ []) x ≡ true
    → (contains xs x ≡ true) ⊎ (y ≡ x)
last_or_before xs x y is =
    elim (contains_either xs (y ∷ []) x is) [
      | inl early ↦ inl early
      | inr last ↦ elim (first_or_rest y [] x last) [ inl same ↦ inr same | inr empty ↦ cc ]
    ]

-- two numbers are one, or apart
same_or_apart : (x y : ℕ) → (x ≡ y) ⊎ ((x < y) ⊎ (y < x))
same_or_apart x y =
    elim (cases_lt x y) [
      | inl less ↦ inr (inl less)
      | inr le ↦ elim (cases_lt y x) [
        | inl more ↦ inr (inr more)
        | inr other ↦ inl (omega arith)
      ]
    ]

set_here : (marks : List Bool) (i : ℕ) (b : Bool) → i < length marks
    → slice_index_or (slice_set marks i b) i false ≡ b
set_here marks i b within = get_or-set_same marks i b false within

set_other : (marks : List Bool) (i x : ℕ) (b : Bool) → (x < i) ⊎ (i < x)
    → slice_index_or (slice_set marks i b) x false ≡ slice_index_or marks x false
set_other marks i x b (inl less) = get_or-set_other marks i x b false (λ same. omega arith)
set_other marks i x b (inr more) = get_or-set_other marks i x b false (λ same. omega arith)

module _ (c : Claiming) (ordered : List (List ℕ)) (worked : List Bool) (left : ℕ)
    (is : IsClaiming c ordered worked left) where
  with_one : (m : ℕ) → Revision
  with_one m = record c.revision { claimed = c.revision.claimed ++ m ∷ [] }

  claimed_marks : (m : ℕ) → m < length worked → contains c.revision.finished m ≡ false → (unit : ℕ)
      → (unit ≡ m) ⊎ ((unit < m) ⊎ (m < unit))
      → slice_index_or (slice_set worked m true) unit false
      ≡ (contains (c.revision.claimed ++ m ∷ []) unit && not (contains c.revision.finished unit))
  claimed_marks m within free unit (inl same) =
      let goal : ℕ → Type 0 = λ (n : ℕ). slice_index_or (slice_set worked m true) n false
      ≡ (contains (c.revision.claimed ++ m ∷ []) n && not (contains c.revision.finished n)) in
      subst goal (sym same)
      (set_here worked m true within
      ∙ sym (ap₂ (λ (a b : Bool). a && not b) (contains_last c.revision.claimed m) free))
  claimed_marks m within free unit (inr apart) =
      set_other worked m unit true apart ∙ is.worked_are unit
      ∙ sym (ap (λ (a : Bool). a && not (contains c.revision.finished unit))
      (contains_other c.revision.claimed unit m apart))

  pub claimed_on : (m : ℕ) → slice_get (units_of (slice_get ordered c.revision.layer))
      (length c.revision.claimed) ≡ Some m
      → IsClaiming (record c {
        revision = record c.revision {
          claimed = c.revision.claimed ++ m ∷ [];
        };
      }) ordered (slice_set worked m true) left
  claimed_on m at =
      let here : List ℕ = units_of (slice_get ordered c.revision.layer) in
      let n : ℕ = length c.revision.claimed in
      let o = is.in_order c.revision.layer in
      let units : List ℕ = layer_units c.program c.revision.layer in
      let among : contains units m ≡ true = of_units units here o n m at in
      let free : contains c.revision.claimed m ≡ false =
      ap (λ (l : List ℕ). contains l m) is.lowest ∙ not_claimed units here o n m at in
      let open_yet : contains c.revision.finished m ≡ false =
      false_from (contains c.revision.finished m)
      (λ done. let taken = is.only_claimed m done in cc) in
      let within : m < length worked =
      omega (arith, known c.program c.revision.layer m is.sound among, is.places) in
      record {
        sound = is.sound;
        within = is.within;
        in_order = is.in_order;
        places = length-set worked m true ∙ is.places;
        lowest = ap₂ (λ (a : List ℕ) (b : ℕ). a ++ b ∷ []) is.lowest
            (sym (get_or_from_slice_get here n m 0 at))
            ∙ sym (take_more here n 0 (slice_get_within here n m at))
            ∙ ap (λ (k : ℕ). take k here) (sym (length-append c.revision.claimed (m ∷ [])));
        worked_are = λ unit. claimed_marks m within open_yet unit (same_or_apart unit m);
        only_claimed = λ unit done. contains_left c.revision.claimed (m ∷ []) unit
            (is.only_claimed unit done);
        left_are = is.left_are;
      }

-- ---- how many units are left

-- one that is not finished counts
abbrev mark : Bool → ℕ
mark b = cond (not b) 1 0

no_self : (m x : ℕ) → m ≡ x → eqb m x ≡ false → ⊥
no_self m x same apart = grind (arith, nat_tests)

-- one that is not there changes no count
count_apart : (finished xs : List ℕ) (m : ℕ) → AllByRecursion (λ y. eqb m y ≡ false) xs
    → count_by (λ u. not (contains (finished ++ m ∷ []) u)) xs
    ≡ count_by (λ u. not (contains finished u)) xs
count_apart finished [] m apart = refl
count_apart finished (x ∷ xs) m apart =
    let other : (x < m) ⊎ (m < x) = elim (same_or_apart x m) [
      | inl same ↦ absurd (no_self m x (sym same) apart.0)
      | inr differ ↦ differ
    ] in
    sum_by-cons (λ u. cond (not (contains (finished ++ m ∷ []) u)) 1 0) x xs
    ∙ ap₂ (λ (b : Bool) (n : ℕ). cond (not b) 1 0 + n) (contains_other finished x m other)
    (count_apart finished xs m apart.1)
    ∙ sym (sum_by-cons (λ u. cond (not (contains finished u)) 1 0) x xs)

none_apart : (x : ℕ) (xs : List ℕ) (m : ℕ) → x ≡ m → AllByRecursion (λ y. eqb x y ≡ false) xs
    → contains xs m ≡ false
none_apart x [] m same apart = refl
none_apart x (y ∷ ys) m same apart =
    let here : eqb y m ≡ false = (let no : eqb x y ≡ false = apart.0 in grind (arith, nat_tests)) in
    ap₂ (λ (a b : Bool). a || b) here (none_apart x ys m same apart.1)

less_here : (finished xs : List ℕ) (x m : ℕ) → x ≡ m
    → AllByRecursion (λ y. eqb x y ≡ false) xs → contains finished m ≡ false
    → count_by (λ u. not (contains (finished ++ m ∷ []) u)) (x ∷ xs) + 1
    ≡ count_by (λ u. not (contains finished u)) (x ∷ xs)
less_here finished xs x m same apart free =
    let gone : contains (finished ++ m ∷ []) x ≡ true =
    subst (λ (n : ℕ). contains (finished ++ m ∷ []) n ≡ true) (sym same)
    (contains_last finished m) in
    let there : contains finished x ≡ false = ap (contains finished) same ∙ free in
    let rest = count_apart finished xs m
    (subst (λ (n : ℕ). AllByRecursion (λ y. eqb n y ≡ false) xs) same apart) in
    let new : count_by (λ u. not (contains (finished ++ m ∷ []) u)) (x ∷ xs)
    ≡ mark (contains (finished ++ m ∷ []) x)
    + count_by (λ u. not (contains (finished ++ m ∷ []) u)) xs =
    sum_by-cons (λ u. cond (not (contains (finished ++ m ∷ []) u)) 1 0) x xs in
    let old : count_by (λ u. not (contains finished u)) (x ∷ xs)
    ≡ mark (contains finished x) + count_by (λ u. not (contains finished u)) xs =
    sum_by-cons (λ u. cond (not (contains finished u)) 1 0) x xs in
    let zero_new : mark (contains (finished ++ m ∷ []) x) ≡ 0 =
    ap mark gone in
    let one_old : mark (contains finished x) ≡ 1 =
    ap mark there in
    omega (arith, new, old, zero_new, one_old, rest)

less_later : (finished xs : List ℕ) (x m : ℕ) → (x < m) ⊎ (m < x)
    → count_by (λ u. not (contains (finished ++ m ∷ []) u)) xs + 1
    ≡ count_by (λ u. not (contains finished u)) xs
    → count_by (λ u. not (contains (finished ++ m ∷ []) u)) (x ∷ xs) + 1
    ≡ count_by (λ u. not (contains finished u)) (x ∷ xs)
less_later finished xs x m apart rest =
    let new : count_by (λ u. not (contains (finished ++ m ∷ []) u)) (x ∷ xs)
    ≡ mark (contains (finished ++ m ∷ []) x)
    + count_by (λ u. not (contains (finished ++ m ∷ []) u)) xs =
    sum_by-cons (λ u. cond (not (contains (finished ++ m ∷ []) u)) 1 0) x xs in
    let old : count_by (λ u. not (contains finished u)) (x ∷ xs)
    ≡ mark (contains finished x) + count_by (λ u. not (contains finished u)) xs =
    sum_by-cons (λ u. cond (not (contains finished u)) 1 0) x xs in
    let same : mark (contains (finished ++ m ∷ []) x)
    ≡ mark (contains finished x) =
    ap mark (contains_other finished x m apart) in
    omega (arith, new, old, same, rest)

-- one that stands there once and is finished now is left no more
pub one_less : (finished xs : List ℕ) (m : ℕ) → IsDistinct eqb xs → contains xs m ≡ true
    → contains finished m ≡ false
    → count_by (λ u. not (contains (finished ++ m ∷ []) u)) xs + 1
    ≡ count_by (λ u. not (contains finished u)) xs
unfolding IsDistinct
one_less finished [] m distinct among free = cc
one_less finished (x ∷ xs) m distinct among free =
    elim (same_or_apart x m) [
      | inl same ↦ less_here finished xs x m same distinct.0 free
      | inr apart ↦ less_later finished xs x m apart
          (one_less finished xs m distinct.1 (sym (contains_miss x xs m (turn apart)) ∙ among)
          free)
    ]

-- ---- one unit is taken back

module _ (c : Claiming) (ordered : List (List ℕ)) (worked : List Bool) (left : ℕ)
    (is : IsClaiming c ordered worked left) (m : ℕ)
    (busy : is_worked c.revision m ≡ true) where
  pub was_claimed : contains c.revision.claimed m ≡ true
  was_claimed = (and_parts (contains c.revision.claimed m) (not (contains c.revision.finished m))
      busy).0

  was_free : contains c.revision.finished m ≡ false
  was_free = from_not (contains c.revision.finished m) (and_parts (contains c.revision.claimed m)
      (not (contains c.revision.finished m)) busy).1

  less : count_by (λ u. not (contains (c.revision.finished ++ m ∷ []) u))
      (layer_units c.program c.revision.layer) + 1
      ≡ count_by (is_left c.revision) (layer_units c.program c.revision.layer)
  less = one_less c.revision.finished (layer_units c.program c.revision.layer) m
      (distinct_at c.program [] c.program.layers c.revision.layer
      (slice_get c.program.layers c.revision.layer) is.sound.layers.order refl)
      (claimed_units c ordered worked left is m was_claimed) was_free

  pub some_left : 1 ≤ left
  some_left = omega (arith, less, is.left_are)

  pub within_marks : m < length worked
  within_marks = omega (
    arith,
    known c.program c.revision.layer m is.sound
        (claimed_units c ordered worked left is m was_claimed),
    is.places,
  )

  finished_marks : (unit : ℕ) → (unit ≡ m) ⊎ ((unit < m) ⊎ (m < unit))
      → slice_index_or (slice_set worked m false) unit false
      ≡ (contains c.revision.claimed unit && not (contains (c.revision.finished ++ m ∷ []) unit))
  finished_marks unit (inl same) =
      let goal : ℕ → Type 0 = λ (n : ℕ). slice_index_or (slice_set worked m false) n false
      ≡ (contains c.revision.claimed n && not (contains (c.revision.finished ++ m ∷ []) n)) in
      subst goal (sym same)
      (set_here worked m false within_marks
      ∙ sym (ap₂ (λ (a b : Bool). a && not b) was_claimed (contains_last c.revision.finished m)))
  finished_marks unit (inr apart) =
      set_other worked m unit false apart ∙ is.worked_are unit
      ∙ sym (ap (λ (a : Bool). contains c.revision.claimed unit && not a)
      (contains_other c.revision.finished unit m apart))

  pub finished_on : IsClaiming (record c {
    revision = record c.revision {
      finished = c.revision.finished ++ m ∷ [];
    };
  }) ordered (slice_set worked m false) (left - 1)
  finished_on = record {
    sound = is.sound;
    within = is.within;
    in_order = is.in_order;
    places = length-set worked m false ∙ is.places;
    lowest = is.lowest;
    worked_are = λ unit. finished_marks unit (same_or_apart unit m);
    only_claimed = λ unit done. elim (last_or_before c.revision.finished unit m done) [
      | inl early ↦ is.only_claimed unit early
      | inr same ↦ subst (λ (n : ℕ). contains c.revision.claimed n ≡ true) same was_claimed
    ];
    left_are = omega (arith, less, is.left_are);
  }

-- ---- another layer, with nothing claimed

count_all : (xs : List ℕ) → count_by (λ u. not (contains [] u)) xs ≡ length xs
count_all [] = refl
count_all (x ∷ xs) =
    let this : count_by (λ u. not (contains [] u)) (x ∷ xs)
    ≡ 1 + count_by (λ u. not (contains [] u)) xs =
    sum_by-cons (λ u. cond (not (contains [] u)) 1 0) x xs in
    omega (arith, this, count_all xs)

pub fresh : (program : Program) (ordered : List (List ℕ)) (worked : List Bool) (layer : ℕ)
    → IsSound program → layer ≤ length program.layers → AreInOrder program.layers ordered
    → length worked ≡ length program.units
    → ((unit : ℕ) → slice_index_or worked unit false ≡ false)
    → IsClaiming (record { program = program; revision = open_layer layer }) ordered worked
    (length (layer_units program layer))
fresh program ordered worked layer sound within in_order places none = record {
  sound = sound;
  within = within;
  in_order = in_order;
  places = places;
  lowest = refl;
  worked_are = none;
  only_claimed = λ unit done. absurd cc;
  left_are = sym (count_all (layer_units program layer));
}

pub none_marked : (n unit : ℕ) → slice_index_or (replicate n false) unit false ≡ false
none_marked zero unit = refl
none_marked (suc n) zero = refl
none_marked (suc n) (suc unit) = none_marked n unit

pub gone_on : (c : Claiming) (ordered : List (List ℕ)) (worked : List Bool) (left layer : ℕ)
    → IsClaiming c ordered worked left → layer ≤ length c.program.layers
    → list_all (contains c.revision.finished) c.revision.claimed ≡ true
    → IsClaiming (record { program = c.program; revision = open_layer layer }) ordered worked
    (length (layer_units c.program layer))
gone_on c ordered worked left layer is within done =
    fresh c.program ordered worked layer is.sound within is.in_order is.places
    (λ unit. is.worked_are unit ∙ and_not (contains c.revision.claimed unit)
    (contains c.revision.finished unit)
    (λ taken. each_of_all (contains c.revision.finished) c.revision.claimed unit done taken))

-- ---- whether a layer is finished

all_alike : (p q : ℕ → Bool) (xs : List ℕ) → ((x : ℕ) → p x ≡ q x) → list_all p xs ≡ list_all q xs
all_alike p q [] same = refl
all_alike p q (x ∷ xs) same = ap₂ (λ (a b : Bool). a && b) (same x) (all_alike p q xs same)

none_or_one : (b : Bool) → eqb (cond (not b) 1 0) 0 ≡ b
none_or_one true = refl
none_or_one false = refl

pub finished_is : (c : Claiming) (ordered : List (List ℕ)) (worked : List Bool) (left : ℕ)
    → IsClaiming c ordered worked left → eqb left 0 ≡ is_finished c.program c.revision
finished_is c ordered worked left is =
    ap (λ (n : ℕ). eqb n 0) is.left_are
    ∙ sum_by-zero (λ u. cond (not (contains c.revision.finished u)) 1 0)
    (layer_units c.program c.revision.layer)
    ∙ all_alike (λ u. eqb (cond (not (contains c.revision.finished u)) 1 0) 0)
    (contains c.revision.finished) (layer_units c.program c.revision.layer)
    (λ u. none_or_one (contains c.revision.finished u))

-- a test that all of a list pass is passed by a part of it
all_part : (p : ℕ → Bool) (xs ys : List ℕ) → ((x : ℕ) → contains ys x ≡ true → contains xs x ≡ true)
    → list_all p xs ≡ true → list_all p ys ≡ true
all_part p xs [] inside all = refl
all_part p xs (y ∷ ys) inside all =
    ap₂ (λ (a b : Bool). a && b)
    (each_of_all p xs y all (inside y (contains_hit y ys y refl)))
    (all_part p xs ys (λ x there. inside x (or_right (eqb y x) (contains ys x) there)) all)

-- what is claimed of a finished layer is finished
pub all_done : (c : Claiming) (ordered : List (List ℕ)) (worked : List Bool) (left : ℕ)
    → IsClaiming c ordered worked left → is_finished c.program c.revision ≡ true
    → list_all (contains c.revision.finished) c.revision.claimed ≡ true
all_done c ordered worked left is done =
    all_part (contains c.revision.finished) (layer_units c.program c.revision.layer)
    c.revision.claimed (claimed_units c ordered worked left is) done

-- nothing is claimed of a layer that is not there
pub none_left : (c : Claiming) (ordered : List (List ℕ)) (worked : List Bool) (left : ℕ)
    → IsClaiming c ordered worked left → has_layer c.program c.revision ≡ false
    → is_finished c.program c.revision ≡ true
none_left c ordered worked left is gone =
    let past : length c.program.layers ≤ c.revision.layer = grind (arith, nat_tests) in
    ap (λ (o : Option (List ℕ)). list_all (contains c.revision.finished) (units_of o))
    (slice_get_past c.program.layers c.revision.layer past)

-- a unit that is worked is one of the open layer
pub worked_units : (c : Claiming) (ordered : List (List ℕ)) (worked : List Bool) (left unit : ℕ)
    → IsClaiming c ordered worked left → is_worked c.revision unit ≡ true
    → contains (layer_units c.program c.revision.layer) unit ≡ true
worked_units c ordered worked left unit is busy =
    claimed_units c ordered worked left is unit (was_claimed c ordered worked left is unit busy)

-- there is a mark for the next unit
pub marked : (c : Claiming) (ordered : List (List ℕ)) (worked : List Bool) (left : ℕ)
    → IsClaiming c ordered worked left → (m : ℕ)
    → slice_get (units_of (slice_get ordered c.revision.layer)) (length c.revision.claimed) ≡ Some m
    → m < length worked
marked c ordered worked left is m at =
    omega (
      arith,
      known c.program c.revision.layer m is.sound (of_units
          (layer_units c.program c.revision.layer)
          (units_of (slice_get ordered c.revision.layer)) (is.in_order c.revision.layer)
          (length c.revision.claimed) m at),
      is.places,
    )
