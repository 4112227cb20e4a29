-- A rising list of spans is fixed by its points, and the row of a test has the points at which the
-- test is true.
use Rattle.std.proofs.Common.{◌≡◌, ◌⊎◌, inl, inr, ℕ, zero, suc, ◌+◌, ◌-◌, ◌<◌, ◌≤◌, Bool, true}
use Rattle.std.proofs.Common.{false, cond, ◌&&◌, ◌||◌, leb, ltb, eqb, List, [], ◌∷◌, ◌++◌, refl}
use Rattle.std.proofs.Common.{sym, ◌∙◌, ap, arith, subst}
use Rattle.std.proofs.Math.Bool.{or_assoc, or-false}
use Rattle.std.proofs.lemmas.Bool.Decides.{nat_tests}
pub use Rattle.rt_base.proofs.Numbers.{le_or_above}
use Rattle.rt_base.proofs.Numbers.{equal_from_bounds}
use Rattle.ground_types.specs.Rows.{with_point, runs, row, IsRisingFrom, covers, IsRowByPoints}

pub covers_hit : (s : ℕ × ℕ) (rest : List (ℕ × ℕ)) (t : ℕ) → s.0 < t → t ≤ s.1
    → covers (s ∷ rest) t ≡ true
covers_hit s rest t above within = grind (arith, nat_tests)

pub covers_miss : (s : ℕ × ℕ) (rest : List (ℕ × ℕ)) (t : ℕ) → (t ≤ s.0) ⊎ (s.1 < t)
    → covers (s ∷ rest) t ≡ covers rest t
covers_miss s rest t (inl low) = grind (arith, nat_tests)
covers_miss s rest t (inr high) = grind (arith, nat_tests)

-- nothing at or below the floor is covered
pub covers_floor : (floor : ℕ) (xs : List (ℕ × ℕ)) (t : ℕ) → IsRisingFrom floor xs → t ≤ floor
    → covers xs t ≡ false
covers_floor floor [] t rising low = refl
covers_floor floor (s ∷ rest) t rising low =
    let below : t ≤ s.0 = omega (arith, rising.0) in
    covers_miss s rest t (inl below) ∙ covers_floor (s.1 + 1) rest t rising.2
    (omega (arith, rising.0, rising.1))

-- two rising lists with the same points begin alike
same_after : (floor : ℕ) (s u : ℕ × ℕ) (xs ys : List (ℕ × ℕ)) → IsRisingFrom floor (s ∷ xs)
    → IsRisingFrom floor (u ∷ ys) →
    ((t : ℕ) → covers (s ∷ xs) t ≡ covers (u ∷ ys) t) → s.0 < u.0 → ⊥
same_after floor s u xs ys left right same low =
    let hit : covers (s ∷ xs) (s.0 + 1) ≡ true = covers_hit s xs (s.0 + 1) (omega arith)
    (omega (arith, left.1)) in
    let none : covers (u ∷ ys) (s.0 + 1) ≡ false = covers_floor u.0 (u ∷ ys) (s.0 + 1)
    (omega arith, right.1, right.2) (omega arith) in
    let both : true ≡ false = sym hit ∙ same (s.0 + 1) ∙ none in
    cc

same_until : (floor : ℕ) (s u : ℕ × ℕ) (xs ys : List (ℕ × ℕ)) → IsRisingFrom floor (s ∷ xs)
    → IsRisingFrom floor (u ∷ ys) →
    ((t : ℕ) → covers (s ∷ xs) t ≡ covers (u ∷ ys) t) → s.0 ≡ u.0 → s.1 < u.1 → ⊥
same_until floor s u xs ys left right same starts low =
    let hit : covers (u ∷ ys) (s.1 + 1) ≡ true = covers_hit u ys (s.1 + 1) (omega (arith, left.1))
    (omega arith) in
    let none : covers (s ∷ xs) (s.1 + 1) ≡ false =
    covers_miss s xs (s.1 + 1) (inr (omega arith)) ∙ covers_floor (s.1 + 1) xs (s.1 + 1) left.2
    (omega arith) in
    let both : true ≡ false = sym hit ∙ sym (same (s.1 + 1)) ∙ none in
    cc

same_rest : (s : ℕ × ℕ) (xs ys : List (ℕ × ℕ)) → IsRisingFrom (s.1 + 1) xs
    → IsRisingFrom (s.1 + 1) ys →
    ((t : ℕ) → covers (s ∷ xs) t ≡ covers (s ∷ ys) t) → (t : ℕ) → (t ≤ s.1 + 1) ⊎ (s.1 + 1 < t)
    → covers xs t ≡ covers ys t
same_rest s xs ys left right same t (inl low) = covers_floor (s.1 + 1) xs t left low
    ∙ sym (covers_floor (s.1 + 1) ys t right low)
same_rest s xs ys left right same t (inr high) =
    let above : s.1 < t = omega arith in
    sym (covers_miss s xs t (inr above)) ∙ same t ∙ covers_miss s ys t (inr above)

pair_eq : (a b c d : ℕ) → a ≡ c → b ≡ d → (let p : ℕ × ℕ = (a, b) in p ≡ (c, d))
pair_eq a b c d e f = cc

-- rising lists with the same points are the same
pub rising_unique : (floor : ℕ) (xs ys : List (ℕ × ℕ)) → IsRisingFrom floor xs
    → IsRisingFrom floor ys →
    ((t : ℕ) → covers xs t ≡ covers ys t) → xs ≡ ys
rising_unique floor [] [] left right same = refl
rising_unique floor [] (u ∷ ys) left right same =
    let hit : covers (u ∷ ys) (u.0 + 1) ≡ true = covers_hit u ys (u.0 + 1) (omega arith)
    (omega (arith, right.1)) in
    absurd (let both : false ≡ true = same (u.0 + 1) ∙ hit in cc)
rising_unique floor (s ∷ xs) [] left right same =
    let hit : covers (s ∷ xs) (s.0 + 1) ≡ true = covers_hit s xs (s.0 + 1) (omega arith)
    (omega (arith, left.1)) in
    absurd (let both : true ≡ false = sym hit ∙ same (s.0 + 1) in cc)
rising_unique floor (s ∷ xs) (u ∷ ys) left right same =
    let starts : s.0 ≡ u.0 = equal_from_bounds _ _ (same_after floor s u xs ys left right same)
    (same_after floor u s ys xs right left (λ t. sym (same t))) in
    let ends : s.1 ≡ u.1 = equal_from_bounds _ _ (same_until floor s u xs ys left right same starts)
    (same_until floor u s ys xs right left (λ t. sym (same t)) (sym starts)) in
    let span : s ≡ u = pair_eq s.0 s.1 u.0 u.1 starts ends in
    let again : IsRisingFrom (s.1 + 1) ys = subst (λ (e : ℕ). IsRisingFrom (e + 1) ys) (sym ends)
    right.2 in
    let points : (t : ℕ) → covers (s ∷ xs) t ≡ covers (s ∷ ys) t =
    subst (λ (v : ℕ × ℕ). (t : ℕ) → covers (s ∷ xs) t ≡ covers (v ∷ ys) t) (sym span) same in
    let rest : xs ≡ ys = rising_unique (s.1 + 1) xs ys left.2 again
    (λ t. same_rest s xs ys left.2 again points t (le_or_above t (s.1 + 1))) in
    cc

-- each span ends at or below this point
abbrev pub IsUpTo : ℕ → List (ℕ × ℕ) → Type 0
IsUpTo top [] = Unit {0}
IsUpTo top (s ∷ rest) = (s.1 ≤ top) × IsUpTo top rest

pub up_to_more : (top more : ℕ) (xs : List (ℕ × ℕ)) → IsUpTo top xs → top ≤ more → IsUpTo more xs
up_to_more top more [] up le = tt
up_to_more top more (s ∷ rest) up le = (omega (arith, up.0), up_to_more top more rest up.1 le)

-- each span ends below this point
abbrev pub IsBelow : ℕ → List (ℕ × ℕ) → Type 0
IsBelow top [] = Unit {0}
IsBelow top (s ∷ rest) = (s.1 < top) × IsBelow top rest

pub below_more : (top more : ℕ) (xs : List (ℕ × ℕ)) → IsBelow top xs → top ≤ more → IsBelow more xs
below_more top more [] below le = tt
below_more top more (s ∷ rest) below le = (
  omega (arith, below.0),
  below_more top more rest below.1
      le,
)

pub below_push : (top : ℕ) (s : ℕ × ℕ) (xs : List (ℕ × ℕ)) → IsBelow top xs → s.1 < top
    → IsBelow top (xs ++ s ∷ [])
below_push top s [] below lt = (lt, tt)
below_push top s (u ∷ rest) below lt = (below.0, below_push top s rest below.1 lt)

-- a span above the others
pub rising_push : (floor a b : ℕ) (xs : List (ℕ × ℕ)) → IsRisingFrom floor xs → floor ≤ a → a < b
    → IsBelow a xs →
    IsRisingFrom floor (xs ++ (a, b) ∷ [])
rising_push floor a b [] rising low span below = (low, span, tt)
rising_push floor a b (s ∷ rest) rising low span below = (
  rising.0,
  rising.1,
  rising_push (s.1 + 1) a b rest rising.2 (omega (arith, below.0)) span
      below.1,
)

-- nothing above the ends is covered
pub covers_above : (top : ℕ) (xs : List (ℕ × ℕ)) (t : ℕ) → IsBelow top xs → top ≤ t
    → covers xs t ≡ false
covers_above top [] t below le = refl
covers_above top (s ∷ rest) t below le = covers_miss s rest t (inr (omega (arith, below.0)))
    ∙ covers_above top rest t below.1 le

pub covers_append : (xs ys : List (ℕ × ℕ)) (t : ℕ) → covers (xs ++ ys) t
    ≡ (covers xs t || covers ys t)
covers_append [] ys t = refl
covers_append (s ∷ rest) ys t = rw (covers_append rest ys t) (sym (or_assoc (ltb s.0 t && leb t s.1)
    (covers rest t) (covers ys t)))

-- what one more point does
record IsWithPoint (floor a : ℕ) (old new : List (ℕ × ℕ)) : Type 0 where
  pub rising : IsRisingFrom floor new
  pub up_to : IsUpTo (a + 1) new
  pub each : (t : ℕ) → covers new t ≡ (covers old t || eqb t (a + 1))

one_more : (t a : ℕ) → (ltb a t && leb t (a + 1)) ≡ eqb t (a + 1)
one_more t a = grind (arith, nat_tests)

longer : (s0 s1 t a : ℕ) → s0 < s1 → s1 ≡ a → (ltb s0 t && leb t (a + 1))
    ≡ ((ltb s0 t && leb t s1) || eqb t (a + 1))
longer s0 s1 t a span is = grind (arith, nat_tests)

with_point_joined : (floor a : ℕ) (s : ℕ × ℕ) (b : Bool) → eqb s.1 a ≡ b
    → IsRisingFrom floor (s ∷ []) → IsUpTo a (s ∷ []) →
    IsWithPoint floor a (s ∷ []) (cond b ((s.0, a + 1) ∷ []) (s ∷ (a, a + 1) ∷ []))
with_point_joined floor a s true is rising up =
    let ends : s.1 ≡ a = grind (arith, nat_tests) in
    record {
      rising = (rising.0, omega (arith, rising.1), tt);
      up_to = (omega arith, tt);
      each = λ t. or-false _ ∙ longer s.0 s.1 t a rising.1 ends
          ∙ ap (λ (b : Bool). b || eqb t (a + 1)) (sym (or-false (ltb s.0 t && leb t s.1)));
    }
with_point_joined floor a s false is rising up =
    let ends : s.1 < a = grind (arith, nat_tests, up.0) in
    record {
      rising = (rising.0, rising.1, (omega arith, omega arith, tt));
      up_to = (omega (arith, up.0), (omega arith, tt));
      each = λ t. sym (or_assoc (ltb s.0 t && leb t s.1) (ltb a t && leb t (a + 1)) false)
          ∙ or-false _
          ∙ ap (λ (b : Bool). (ltb s.0 t && leb t s.1) || b) (one_more t a)
          ∙ ap (λ (b : Bool). b || eqb t (a + 1)) (sym (or-false (ltb s.0 t && leb t s.1)));
    }

with_point_is : (floor a : ℕ) (xs : List (ℕ × ℕ)) → floor ≤ a → IsRisingFrom floor xs → IsUpTo a xs
    → IsWithPoint floor a xs (with_point a xs)
with_point_is floor a [] low rising up =
    record {
      rising = (low, omega arith, tt);
      up_to = (omega arith, tt);
      each = λ t. or-false _
          ∙ one_more t a;
    }
with_point_is floor a (s ∷ []) low rising up = with_point_joined floor a s (eqb s.1 a) refl rising
    up
with_point_is floor a (s ∷ u ∷ rest) low rising up =
    let inner : IsWithPoint (s.1 + 1) a (u ∷ rest) (with_point a (u ∷ rest)) =
    with_point_is (s.1 + 1) a (u ∷ rest) (omega (arith, rising.2.0, rising.2.1, up.1.0)) rising.2
    up.1 in
    record {
      rising = (rising.0, rising.1, inner.rising);
      up_to = (omega (arith, up.0), inner.up_to);
      each = λ t. ap (λ (b : Bool). (ltb s.0 t && leb t s.1) || b) (inner.each t)
          ∙ sym (or_assoc (ltb s.0 t && leb t s.1) (covers (u ∷ rest) t) (eqb t (a + 1)));
    }

pub record AreRuns (test : ℕ → Bool) (w n : ℕ) (spans : List (ℕ × ℕ)) : Type 0 where
  pub rising : IsRisingFrom w spans
  pub up_to : IsUpTo (w + n) spans
  pub each : (t : ℕ) → covers spans t ≡ (ltb w t && leb t (w + n) && test t)

last_true : (w n t : ℕ) (b : Bool) → (t ≡ w + suc n → b ≡ true) →
    ((ltb w t && leb t (w + n) && b) || eqb t (w + n + 1)) ≡ (ltb w t && leb t (w + suc n) && b)
last_true w n t true at = grind (arith, nat_tests)
last_true w n t false at = grind (arith, nat_tests)

last_false : (w n t : ℕ) (b : Bool) → (t ≡ w + suc n → b ≡ false) →
    (ltb w t && leb t (w + n) && b) ≡ (ltb w t && leb t (w + suc n) && b)
last_false w n t true at = grind (arith, nat_tests)
last_false w n t false at = grind (arith, nat_tests)

runs_more : (test : ℕ → Bool) (w n : ℕ) (xs : List (ℕ × ℕ)) (b : Bool) → test (w + suc n) ≡ b
    → AreRuns test w n xs →
    AreRuns test w (suc n) (cond b (with_point (w + n) xs) xs)
runs_more test w n xs true is old =
    let more : IsWithPoint w (w + n) xs (with_point (w + n) xs) = with_point_is w (w + n) xs
    (omega arith) old.rising old.up_to in
    record {
      rising = more.rising;
      up_to = up_to_more _ _ _ more.up_to (omega arith);
      each = λ t. more.each t ∙ ap (λ (b : Bool). b || eqb t (w + n + 1)) (old.each t)
          ∙ last_true w n t (test t) (λ at. ap test at ∙ is);
    }
runs_more test w n xs false is old =
    record {
      rising = old.rising;
      up_to = up_to_more _ _ _ old.up_to (omega arith);
      each = λ t. old.each t ∙ last_false w n t (test t) (λ at. ap test at ∙ is);
    }

pub runs_are : (test : ℕ → Bool) (w n : ℕ) → AreRuns test w n (runs test w n)
runs_are test w zero = record { rising = tt; up_to = tt; each = λ t. grind (arith, nat_tests) }
runs_are test w (suc n) = runs_more test w n (runs test w n) (test (w + suc n)) refl
    (runs_are test w n)

-- what is a row by its points is the row
pub row_from_points : (test : ℕ → Bool) (w q : ℕ) (spans : List (ℕ × ℕ)) → w ≤ q
    → IsRowByPoints test w q spans → spans ≡ row test w q
row_from_points test w q spans le is =
    let runs : AreRuns test w (q + 1 - w) (row test w q) = runs_are test w (q + 1 - w) in
    let top : w + (q + 1 - w) ≡ q + 1 = omega arith in
    rising_unique w spans (row test w q) is.rising runs.rising
    (λ t. is.each t ∙ ap (λ (m : ℕ). ltb w t && leb t m && test t) (sym top) ∙ sym (runs.each t))
