-- Two rising lists of points that are walked together: the points that they do not share.
use Rattle.std.proofs.Common.{◌≡◌, ℕ, ◌+◌, ◌<◌, ◌≤◌, Bool, true, false, cond, ◌||◌, ◌&&◌, leb, eqb}
use Rattle.std.proofs.Common.{List, [], ◌∷◌, ◌++◌, length, Some, None, refl, sym, ◌∙◌, ap, arith}
use Rattle.std.proofs.Common.{append-nil}
use Rattle.std.proofs.lemmas.Bool.Decides.{nat_tests}
use Rattle.std.proofs.lemmas.List.Folds.{list_any-append}
use Rattle.rt_base.specs.Truths.{differs}
use Rattle.span_algebra.specs.Normal.{IsRisingFrom, has}
use Rattle.span_algebra.specs.Walk.{front_of}
use Rattle.span_algebra.specs.Merge.{lower, begins, past}
use Rattle.span_algebra.proofs.Having.{has_floor}

-- each point is below the top
abbrev pub AreBelow : ℕ → List ℕ → Type 0
AreBelow top [] = Unit {0}
AreBelow top (p ∷ rest) = (p < top) × AreBelow top rest

below_more : (top more : ℕ) (xs : List ℕ) → AreBelow top xs → top ≤ more → AreBelow more xs
below_more top more [] below le = tt
below_more top more (p ∷ rest) below le = (
  omega (arith, below.0),
  below_more top more rest below.1 le,
)

below_push : (top p : ℕ) (xs : List ℕ) → AreBelow top xs → p < top → AreBelow top (xs ++ p ∷ [])
below_push top p [] below lt = (lt, tt)
below_push top p (y ∷ rest) below lt = (below.0, below_push top p rest below.1 lt)

rises_push : (floor p : ℕ) (xs : List ℕ) → IsRisingFrom floor xs → floor ≤ p → AreBelow p xs
    → IsRisingFrom floor (xs ++ p ∷ [])
rises_push floor p [] rises le below = (le, tt)
rises_push floor p (y ∷ rest) rises le below =
    (rises.0, rises_push (y + 1) p rest rises.1 (omega (arith, below.0)) below.1)

-- past a first point
pub record IsPast (xs now : List ℕ) (at : ℕ) : Type 0 where
  pub rises : IsRisingFrom (at + 1) now
  pub same : (t : ℕ) → has xs t ≡ ((begins xs at && eqb at t) || has now t)
  pub fewer : length now + cond (begins xs at) 1 0 ≡ length xs

past_by : (p : ℕ) (rest : List ℕ) (at : ℕ) (b : Bool) → eqb p at ≡ b → IsRisingFrom at (p ∷ rest)
    → IsPast (p ∷ rest) (cond b rest (p ∷ rest)) at
past_by p rest at true is rises =
    let same : p ≡ at = grind (arith, nat_tests) in
    record {
      rises = rw (← same) rises.1;
      same = λ t. rw is (ap (λ (n : ℕ). eqb n t || has rest t) same);
      fewer = rw is (omega arith);
    }
past_by p rest at false is rises = record {
  rises = (grind (arith, nat_tests, rises.0), rises.1);
  same = λ t. rw is refl;
  fewer = rw is (omega arith);
}

pub past_is : (xs : List ℕ) (at : ℕ) → IsRisingFrom at xs → IsPast xs (past xs at) at
past_is [] at rises = record { rises = tt; same = λ t. refl; fewer = omega arith }
past_is (p ∷ rest) at rises = past_by p rest at (eqb p at) refl rises

-- the lower of two first points
pub record IsLower (one two : List ℕ) (top at : ℕ) : Type 0 where
  pub above : top ≤ at
  pub ones : IsRisingFrom at one
  pub twos : IsRisingFrom at two
  pub found : (begins one at || begins two at) ≡ true

eqb_same : (n : ℕ) → eqb n n ≡ true
eqb_same n = grind (arith, nat_tests)

or_last : (b : Bool) → (b || true) ≡ true
or_last true = refl
or_last false = refl

lower_by : (a : ℕ) (ar : List ℕ) (b : ℕ) (br : List ℕ) (top : ℕ) (c : Bool) → leb a b ≡ c
    → IsRisingFrom top (a ∷ ar) → IsRisingFrom top (b ∷ br)
    → IsLower (a ∷ ar) (b ∷ br) top (cond c a b)
lower_by a ar b br top true is one two = record {
  above = one.0;
  ones = (omega arith, one.1);
  twos = (grind (arith, nat_tests), two.1);
  found = rw (eqb_same a) refl;
}
lower_by a ar b br top false is one two =
    let lt : b < a = grind (arith, nat_tests) in
    record {
      above = two.0;
      ones = (omega (arith, lt), one.1);
      twos = (omega arith, two.1);
      found = rw (eqb_same b) (or_last (eqb a b));
    }

option_cond : {X : Type 0} (c : Bool) (a b x : X) → cond c (Some a) (Some b) ≡ Some x
    → cond c a b ≡ x
option_cond true a b x is = cc
option_cond false a b x is = cc

pub lower_is : (one two : List ℕ) (top at : ℕ) → IsRisingFrom top one → IsRisingFrom top two
    → lower (front_of one) (front_of two) ≡ Some at → IsLower one two top at
lower_is [] [] top at one two is = cc
lower_is [] (b ∷ br) top at one two is =
    let same : b ≡ at = cc in
    rw (← same) (record {
      above = two.0;
      ones = tt;
      twos = (omega arith, two.1);
      found = eqb_same b;
    })
lower_is (a ∷ ar) [] top at one two is =
    let same : a ≡ at = cc in
    rw (← same) (record {
      above = one.0;
      ones = (omega arith, one.1);
      twos = tt;
      found = rw (eqb_same a) refl;
    })
lower_is (a ∷ ar) (b ∷ br) top at one two is =
    let same : cond (leb a b) a b ≡ at = option_cond (leb a b) a b at is in
    rw (← same) (lower_by a ar b br top (leb a b) refl one two)

no_cond : {X : Type 0} (c : Bool) (a b : X) → cond c (Some a) (Some b) ≡ None → ⊥
no_cond true a b is = cc
no_cond false a b is = cc

none_lower : (one two : List ℕ) → lower (front_of one) (front_of two) ≡ None
    → (one ≡ []) × (two ≡ [])
none_lower [] [] is = (refl, refl)
none_lower [] (b ∷ br) is = cc
none_lower (a ∷ ar) [] is = cc
none_lower (a ∷ ar) (b ∷ br) is = absurd (no_cond (leb a b) a b is)

-- all that the walk knows
pub record IsMerging (one two one_left two_left out : List ℕ) (top : ℕ) : Type 0 where
  pub rises : IsRisingFrom 0 out
  pub below : AreBelow top out
  pub ones : IsRisingFrom top one_left
  pub twos : IsRisingFrom top two_left
  pub same : (t : ℕ) → (has out t || differs (has one_left t) (has two_left t))
      ≡ differs (has one t) (has two t)

pub merging_start : (one two : List ℕ) → IsRisingFrom 0 one → IsRisingFrom 0 two
    → IsMerging one two one two [] 0
merging_start one two a b = record { rises = tt; below = tt; ones = a; twos = b; same = λ t. refl }

-- a point goes out where it begins one list alone
step_here : (h a b : Bool) → ((h || (differs a b && true)) || false)
    ≡ (h || differs ((a && true) || false) ((b && true) || false))
step_here true a b = refl
step_here false true true = refl
step_here false true false = refl
step_here false false true = refl
step_here false false false = refl

step_else : (h a b o w : Bool) → ((h || (differs a b && false)) || differs o w)
    ≡ (h || differs ((a && false) || o) ((b && false) || w))
step_else true a b o w = refl
step_else false true true o w = refl
step_else false true false o w = refl
step_else false false true o w = refl
step_else false false false o w = refl

step_by : (h a b o w e : Bool) → (e ≡ true → o ≡ false) → (e ≡ true → w ≡ false)
    → ((h || (differs a b && e)) || differs o w)
    ≡ (h || differs ((a && e) || o) ((b && e) || w))
step_by h a b o w true ones twos = rw (ones refl, twos refl) (step_here h a b)
step_by h a b o w false ones twos = step_else h a b o w

pushed_has : (out : List ℕ) (at t : ℕ) (d : Bool)
    → has (out ++ cond d (at ∷ []) []) t ≡ (has out t || (d && eqb at t))
pushed_has out at t d = list_any-append (λ p. eqb p t) out (cond d (at ∷ []) [])
    ∙ ap (λ (b : Bool). has out t || b) (only d)
  where
    last : (b : Bool) → (b || false) ≡ b
    last true = refl
    last false = refl

    only : (c : Bool) → has (cond c (at ∷ []) []) t ≡ (c && eqb at t)
    only true = last (eqb at t)
    only false = refl

pushed_rises : (out : List ℕ) (at : ℕ) (d : Bool) → IsRisingFrom 0 out → AreBelow at out
    → IsRisingFrom 0 (out ++ cond d (at ∷ []) [])
pushed_rises out at true rises below = rises_push 0 at out rises (omega arith) below
pushed_rises out at false rises below = rw (append-nil out) rises

pushed_below : (out : List ℕ) (at : ℕ) (d : Bool) → AreBelow at out
    → AreBelow (at + 1) (out ++ cond d (at ∷ []) [])
pushed_below out at true below = below_push (at + 1) at out (below_more at (at + 1) out below
    (omega arith)) (omega arith)
pushed_below out at false below = rw (append-nil out) (below_more at (at + 1) out below
    (omega arith))

pub merging_more : (one two one_left two_left out : List ℕ) (top at : ℕ)
    → IsMerging one two one_left two_left out top
    → lower (front_of one_left) (front_of two_left) ≡ Some at
    → IsMerging one two (past one_left at) (past two_left at)
    (out ++ cond (differs (begins one_left at) (begins two_left at)) (at ∷ []) []) (at + 1)
merging_more one two one_left two_left out top at m is =
    let e : IsLower one_left two_left top at = lower_is one_left two_left top at m.ones m.twos is
    in
    let p : IsPast one_left (past one_left at) at = past_is one_left at e.ones in
    let r : IsPast two_left (past two_left at) at = past_is two_left at e.twos in
    let d : Bool = differs (begins one_left at) (begins two_left at) in
    let low : AreBelow at out = below_more top at out m.below e.above in
    record {
      rises = pushed_rises out at d m.rises low;
      below = pushed_below out at d low;
      ones = p.rises;
      twos = r.rises;
      same = λ t. ap (λ (b : Bool). b || differs (has (past one_left at) t)
          (has (past two_left at) t)) (pushed_has out at t d)
          ∙ step_by (has out t) (begins one_left at) (begins two_left at)
          (has (past one_left at) t) (has (past two_left at) t) (eqb at t)
          (λ here. has_floor (at + 1) (past one_left at) t p.rises (grind (arith, nat_tests)))
          (λ here. has_floor (at + 1) (past two_left at) t r.rises (grind (arith, nat_tests)))
          ∙ (λ i. has out t || differs (sym (p.same t) i) (sym (r.same t) i))
          ∙ m.same t;
    }

by_count : (m n l k x y : ℕ) → m + x ≡ l → n + y ≡ k → 1 ≤ x + y → m + n < l + k
by_count m n l k x y a b c = omega arith

some_passed : (a b : Bool) → (a || b) ≡ true → 1 ≤ cond a 1 0 + cond b 1 0
some_passed true b is = omega arith
some_passed false true is = omega arith
some_passed false false is = cc

pub merging_fewer : (one two one_left two_left out : List ℕ) (top at : ℕ)
    → IsMerging one two one_left two_left out top
    → lower (front_of one_left) (front_of two_left) ≡ Some at
    → length (past one_left at) + length (past two_left at) < length one_left + length two_left
merging_fewer one two one_left two_left out top at m is =
    let e : IsLower one_left two_left top at = lower_is one_left two_left top at m.ones m.twos is
    in
    by_count _ _ _ _ _ _ (past_is one_left at e.ones).fewer (past_is two_left at e.twos).fewer
    (some_passed _ _ e.found)

or_none : (b : Bool) → b ≡ (b || false)
or_none true = refl
or_none false = refl

pub merging_end : (one two one_left two_left out : List ℕ) (top : ℕ)
    → IsMerging one two one_left two_left out top
    → lower (front_of one_left) (front_of two_left) ≡ None → (t : ℕ) → has out t
    ≡ differs (has one t) (has two t)
merging_end one two one_left two_left out top m is t =
    let none : (one_left ≡ []) × (two_left ≡ []) = none_lower one_left two_left is in
    or_none (has out t) ∙ (let same : (has out t || false)
    ≡ differs (has one t) (has two t) = rw (none.0, none.1) at (m.same t) in same)
