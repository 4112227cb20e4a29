-- Points with the value that is initiated there first, merged two lists at a time.
use Rattle.std.proofs.Common.{◌≡◌, ℕ, ◌+◌, ◌-◌, ◌<◌, ◌≤◌, Bool, true, false, cond, ◌||◌, leb, eqb}
use Rattle.std.proofs.Common.{List, [], ◌∷◌, ◌++◌, length, get_or, map, take, drop, Option, Some}
use Rattle.std.proofs.Common.{None, refl, sym, ◌∙◌, ap, arith, length-take, length-drop}
use Rattle.std.proofs.Math.Seq.{take-length}
use Rattle.std.proofs.lemmas.List.{take-append-drop}
use Rattle.std.proofs.lemmas.Bool.Decides.{nat_tests}
use Rattle.ground_types.specs.Members.{contains}
use Rattle.span_algebra.specs.Normal.{IsRisingFrom}
use Rattle.simple_fluent.specs.declared.firsts.First.{First}
use Rattle.simple_fluent.specs.Firsts.{least_with, RisesFrom, value_in, or_else, first_of, earlier}
use Rattle.simple_fluent.specs.Firsts.{past_first}
use Rattle.simple_fluent.specs.Sweep.{started}

or_else_assoc : (a b c : Option ℕ) → or_else a (or_else b c) ≡ or_else (or_else a b) c
or_else_assoc None b c = refl
or_else_assoc (Some a) b c = refl

or_else_cond : (b : Bool) (v : ℕ) (o p : Option ℕ) → or_else (cond b (Some v) o) p
    ≡ cond b (Some v) (or_else o p)
or_else_cond true v o p = refl
or_else_cond false v o p = refl

pub or_else_none : (o : Option ℕ) → or_else o None ≡ o
or_else_none None = refl
or_else_none (Some a) = refl

value_append : (xs ys : List First) (t : ℕ) → value_in (xs ++ ys) t ≡ or_else (value_in xs t)
    (value_in ys t)
value_append [] ys t = refl
value_append (x ∷ xs) ys t =
    ap (λ (o : Option ℕ). cond (eqb x.at t) (Some x.value) o) (value_append xs ys t)
    ∙ sym (or_else_cond (eqb x.at t) x.value (value_in xs t) (value_in ys t))

-- below the floor there is none
pub value_low : (floor : ℕ) (xs : List First) (t : ℕ) → RisesFrom floor xs → t < floor
    → value_in xs t ≡ None
value_low floor [] t rises lt = refl
value_low floor (x ∷ rest) t rises lt =
    let no : eqb x.at t ≡ false = grind (arith, nat_tests, rises.0) in
    rw no (value_low (x.at + 1) rest t rises.1 (omega (arith, rises.0)))

-- each item is below the top
abbrev pub AreBelow : ℕ → List First → Type 0
AreBelow top [] = Unit {0}
AreBelow top (x ∷ rest) = (x.at < top) × AreBelow top rest

below_more : (top more : ℕ) (xs : List First) → AreBelow top xs → top ≤ more → AreBelow more xs
below_more top more [] below le = tt
below_more top more (x ∷ rest) below le = (
  omega (arith, below.0),
  below_more top more rest below.1
      le,
)

below_push : (top : ℕ) (x : First) (xs : List First) → AreBelow top xs → x.at < top
    → AreBelow top (xs ++ x ∷ [])
below_push top x [] below lt = (lt, tt)
below_push top x (y ∷ rest) below lt = (below.0, below_push top x rest below.1 lt)

rises_push : (floor : ℕ) (x : First) (xs : List First) → RisesFrom floor xs → floor ≤ x.at
    → AreBelow x.at xs → RisesFrom floor (xs ++ x ∷ [])
rises_push floor x [] rises le below = (le, tt)
rises_push floor x (y ∷ rest) rises le below =
    (rises.0, rises_push (y.at + 1) x rest rises.1 (omega (arith, below.0)) below.1)

abbrev pub starts_at : List First → ℕ → Bool
starts_at [] at = false
starts_at (x ∷ rest) at = eqb x.at at

-- past the front
pub record IsPast (xs now : List First) (at : ℕ) : Type 0 where
  pub rises : RisesFrom (at + 1) now
  pub same : (t : ℕ) → eqb at t ≡ false → value_in xs t ≡ value_in now t
  pub here : value_in xs at ≡ started xs at
  pub fewer : length now + cond (starts_at xs at) 1 0 ≡ length xs

past_by : (x : First) (rest : List First) (at : ℕ) (b : Bool) → eqb x.at at ≡ b
    → RisesFrom at (x ∷ rest) →
    IsPast (x ∷ rest) (cond b rest (x ∷ rest)) at
past_by x rest at true is rises =
    let same : x.at ≡ at = grind (arith, nat_tests) in
    record {
      rises = rw (← same) rises.1;
      same = λ t no. (let other : eqb x.at t ≡ false = rw same no in rw other refl);
      here = rw is refl;
      fewer = rw is (omega arith);
    }
past_by x rest at false is rises = record {
  rises = (grind (arith, nat_tests, rises.0), rises.1);
  same = λ t no. refl;
  here = rw is (value_low (x.at + 1) rest at rises.1 (omega (arith, rises.0)));
  fewer = rw is (omega arith);
}

pub past : (xs : List First) (at : ℕ) → RisesFrom at xs → IsPast xs (past_first xs at) at
past [] at rises = record { rises = tt; same = λ t no. refl; here = refl; fewer = omega arith }
past (x ∷ rest) at rises = past_by x rest at (eqb x.at at) refl rises

-- the earlier of two fronts
pub record IsEarlier (one two : List First) (top : ℕ) (x : First) : Type 0 where
  pub above : top ≤ x.at
  pub ones : RisesFrom x.at one
  pub twos : RisesFrom x.at two
  pub here : or_else (started one x.at) (started two x.at) ≡ Some x.value
  pub found : (starts_at one x.at || starts_at two x.at) ≡ true

eqb_same : (n : ℕ) → eqb n n ≡ true
eqb_same n = grind (arith, nat_tests)

earlier_by : (a : First) (ar : List First) (b : First) (br : List First) (top : ℕ) (c : Bool)
    → leb a.at b.at ≡ c →
    RisesFrom top (a ∷ ar) → RisesFrom top (b ∷ br) → IsEarlier (a ∷ ar) (b ∷ br) top (cond c a b)
earlier_by a ar b br top true is one two =
    let le : a.at ≤ b.at = grind (arith, nat_tests) in
    record {
      above = one.0;
      ones = (omega arith, one.1);
      twos = (le, two.1);
      here = rw (eqb_same a.at) refl;
      found = rw (eqb_same a.at) refl;
    }
earlier_by a ar b br top false is one two =
    let lt : b.at < a.at = grind (arith, nat_tests) in
    let no : eqb a.at b.at ≡ false = grind (arith, nat_tests) in
    record {
      above = two.0;
      ones = (omega (arith, lt), one.1);
      twos = (omega arith, two.1);
      here = rw (no, eqb_same b.at) refl;
      found = rw (no, eqb_same b.at) refl;
    }

pub earlier_is : (one two : List First) (top : ℕ) (x : First) → RisesFrom top one
    → RisesFrom top two → earlier (first_of one) (first_of two) ≡ Some x →
    IsEarlier one two top x
earlier_is [] [] top x one two is = cc
earlier_is [] (b ∷ br) top x one two is =
    let same : b ≡ x = cc in
    rw (← same) (record {
      above = two.0;
      ones = tt;
      twos = (omega arith, two.1);
      here = rw (eqb_same b.at) refl;
      found = rw (eqb_same b.at) refl;
    })
earlier_is (a ∷ ar) [] top x one two is =
    let same : a ≡ x = cc in
    rw (← same) (record {
      above = one.0;
      ones = (omega arith, one.1);
      twos = tt;
      here = rw (eqb_same a.at) refl;
      found = rw (eqb_same a.at) refl;
    })
earlier_is (a ∷ ar) (b ∷ br) top x one two is =
    rw (← which (leb a.at b.at) is) (earlier_by a ar b br top (leb a.at b.at) refl one two)
  where
    which : (c : Bool) → cond c (Some a) (Some b) ≡ Some x → cond c a b ≡ x
    which true there = cc
    which false there = cc

pub none_earlier : (one two : List First) → earlier (first_of one) (first_of two) ≡ None
    → (one ≡ []) × (two ≡ [])
none_earlier [] [] is = (refl, refl)
none_earlier [] (b ∷ br) is = cc
none_earlier (a ∷ ar) [] is = cc
none_earlier (a ∷ ar) (b ∷ br) is = absurd (some (leb a.at b.at) is)
  where
    some : (c : Bool) → cond c (Some a) (Some b) ≡ None → ⊥
    some true none = cc
    some false none = cc

-- all that the merging knows
pub record IsMerging (one two one_left two_left out : List First) (top : ℕ) : Type 0 where
  pub rises : RisesFrom 0 out
  pub below : AreBelow top out
  pub ones : RisesFrom top one_left
  pub twos : RisesFrom top two_left
  pub same : (t : ℕ) → or_else (value_in out t) (or_else (value_in one_left t)
      (value_in two_left t)) ≡ or_else (value_in one t) (value_in two t)

pub merging_start : (one two : List First) → RisesFrom 0 one → RisesFrom 0 two
    → IsMerging one two one two [] 0
merging_start one two a b = record { rises = tt; below = tt; ones = a; twos = b; same = λ t. refl }

step_by : (one two now_one now_two : List First) (x : First) (t : ℕ) (b : Bool) → eqb x.at t ≡ b →
    or_else (value_in one x.at) (value_in two x.at) ≡ Some x.value →
    (eqb x.at t ≡ false → value_in one t ≡ value_in now_one t)
    → (eqb x.at t ≡ false → value_in two t ≡ value_in now_two t) →
    or_else (cond b (Some x.value) None) (or_else (value_in now_one t) (value_in now_two t))
    ≡ or_else (value_in one t) (value_in two t)
step_by one two now_one now_two x t true is here ones twos =
    let same : x.at ≡ t = grind (arith, nat_tests) in
    rw (← same) (sym here)
step_by one two now_one now_two x t false is here ones twos = rw (ones is, twos is) refl

pub merging_more : (one two one_left two_left out : List First) (top : ℕ) (x : First)
    → IsMerging one two one_left two_left out top →
    earlier (first_of one_left) (first_of two_left) ≡ Some x
    → IsMerging one two (past_first one_left x.at) (past_first two_left x.at) (out ++ x ∷ [])
    (x.at + 1)
merging_more one two one_left two_left out top x m is =
    let e : IsEarlier one_left two_left top x = earlier_is one_left two_left top x m.ones m.twos is
    in
    let p : IsPast one_left (past_first one_left x.at) x.at = past one_left x.at e.ones in
    let r : IsPast two_left (past_first two_left x.at) x.at = past two_left x.at e.twos in
    record {
      rises = rises_push 0 x out m.rises (omega arith) (below_more top x.at out m.below e.above);
      below = below_push (x.at + 1) x out (below_more top (x.at + 1) out m.below
          (omega (arith, e.above))) (omega arith);
      ones = p.rises;
      twos = r.rises;
      same = λ t. rw (value_append out (x ∷ []) t, ← or_else_assoc)
          (ap (λ (o : Option ℕ). or_else (value_in out t) o)
          (step_by one_left two_left (past_first one_left x.at) (past_first two_left x.at) x t
          (eqb x.at t) refl (rw (p.here, r.here) e.here) (p.same t) (r.same t))
          ∙ m.same t);
    }

pub merging_fewer : (one two one_left two_left out : List First) (top : ℕ) (x : First)
    → IsMerging one two one_left two_left out top →
    earlier (first_of one_left) (first_of two_left) ≡ Some x →
    length (past_first one_left x.at) + length (past_first two_left x.at) < length one_left +
    length two_left
merging_fewer one two one_left two_left out top x m is =
    let e : IsEarlier one_left two_left top x = earlier_is one_left two_left top x m.ones m.twos is
    in
    omega (
      arith,
      (past one_left x.at e.ones).fewer,
      (past two_left x.at e.twos).fewer,
      one_passed (starts_at one_left x.at) (starts_at two_left x.at) e.found,
    )
  where
    one_passed : (a b : Bool) → (a || b) ≡ true → 1 ≤ cond a 1 0 + cond b 1 0
    one_passed true b found = omega arith
    one_passed false true found = omega arith
    one_passed false false found = cc

pub merging_end : (one two one_left two_left out : List First) (top : ℕ)
    → IsMerging one two one_left two_left out top →
    earlier (first_of one_left) (first_of two_left) ≡ None → (t : ℕ) → value_in out t
    ≡ or_else (value_in one t) (value_in two t)
merging_end one two one_left two_left out top m is t =
    let none : (one_left ≡ []) × (two_left ≡ []) = none_earlier one_left two_left is in
    sym (or_else_none (value_in out t)) ∙ (let same : or_else (value_in out t) None
    ≡ or_else (value_in one t) (value_in two t) = rw (none.0, none.1) at (m.same t) in same)

-- the items of one value
pub one_rises : (floor : ℕ) (points : List ℕ) (v : ℕ) → IsRisingFrom floor points
    → RisesFrom floor (map (λ p. record { at = p; value = v }) points)
one_rises floor [] v rising = tt
one_rises floor (p ∷ rest) v rising = (rising.0, one_rises (p + 1) rest v rising.1)

one_more : (a b : Bool) (v : ℕ) (o : Option ℕ) → o ≡ cond b (Some v) None → cond a (Some v) o
    ≡ cond (a || b) (Some v) None
one_more true b v o is = refl
one_more false b v o is = is

pub one_value : (points : List ℕ) (v t : ℕ)
    → value_in (map (λ p. record { at = p; value = v }) points) t ≡ least_with v (points ∷ []) t
one_value [] v t = refl
one_value (p ∷ rest) v t = one_more (eqb p t) (contains rest t) v _ (one_value rest v t)

pub least_append : (v u : ℕ) (xs ys : List (List ℕ)) (t : ℕ) → v + length xs ≡ u
    → least_with v (xs ++ ys) t ≡ or_else (least_with v xs t) (least_with u ys t)
least_append v u [] ys t is = (let same : v ≡ u = omega arith in ap (λ (n : ℕ). least_with n ys t)
    same)
least_append v u (x ∷ xs) ys t is =
    ap (λ (o : Option ℕ). cond (contains x t) (Some v) o) (least_append (v + 1) u xs ys t
    (omega arith))
    ∙ sym (or_else_cond (contains x t) v (least_with (v + 1) xs t) (least_with u ys t))

pub least_halves : (v u : ℕ) (xs : List (List ℕ)) (n t : ℕ) (a b : Option ℕ) → n ≤ length xs
    → v + n ≡ u → a ≡ least_with v (take n xs) t →
    b ≡ least_with u (take (length xs - n) (drop n xs)) t → or_else a b ≡ least_with v xs t
least_halves v u xs n t a b le is one two =
    let all : take (length xs - n) (drop n xs) ≡ drop n xs =
    rw (← length-drop n xs) (take-length (drop n xs)) in
    let whole : take n xs ++ drop n xs ≡ xs = take-append-drop n xs in
    rw (one, two, all) (sym (least_append v u (take n xs) (drop n xs) t
    (omega (arith, length-take n xs))))
    ∙ ap (λ (l : List (List ℕ)). least_with v l t) whole

pub single : (xs : List (List ℕ)) (x : List ℕ) → length xs < 2 → 1 ≤ length xs → x ≡ get_or xs 0 x
    → xs ≡ x ∷ []
single [] x lt le is = absurd (omega arith)
single (y ∷ []) x lt le is = ap (λ (z : List ℕ). z ∷ []) (sym is)
single (y ∷ z ∷ rest) x lt le is = absurd (omega arith)

pub one_gathered : (xs : List (List ℕ)) (x points : List ℕ) (v : ℕ) (out : List First)
    → length xs < 2 → 1 ≤ length xs → x ≡ get_or xs 0 x → points ≡ x →
    out ≡ map (λ p. record { at = p; value = v }) points → (t : ℕ) → value_in out t
    ≡ least_with v xs t
one_gathered xs x points v out lt le is same items t =
    rw (items, same, single xs x lt le is) (one_value x v t)
