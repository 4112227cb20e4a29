-- Spans that are right at all points that a sweep has passed.
use Rattle.std.proofs.Common.{◌≡◌, ◌⊎◌, inl, inr, ℕ, ◌+◌, ◌<◌, ◌≤◌, Bool, true, false, ◌&&◌, ◌||◌}
use Rattle.std.proofs.Common.{leb, ltb, List, [], ◌∷◌, ◌++◌, Option, Some, None, refl, sym, ◌∙◌, ap}
use Rattle.std.proofs.Common.{arith}
use Rattle.std.specs.Prelude.{is_some}
use Rattle.std.proofs.Math.Bool.{or-false}
use Rattle.std.proofs.lemmas.List.{append-nil}
use Rattle.std.proofs.lemmas.Bool.Decides.{nat_tests}
use Rattle.ground_types.specs.Rows.{IsRisingFrom, covers, IsRowByPoints}
use Rattle.ground_types.proofs.Rows.{IsBelow, below_more, below_push, rising_push, covers_above}
use Rattle.ground_types.proofs.Rows.{covers_floor, covers_append}
use Rattle.rt_base.proofs.Numbers.{le_or_above}
use Rattle.span_algebra.proofs.Drawing.{is_open, limit, BeginsWithin, open_beyond, within_more}
use Rattle.span_algebra.specs.Normal.{pairs}
use Rattle.span_algebra.specs.Walk.{begun_after, closed_at}

-- the spans and the open one are right at all points up to the top
pub record IsSwept (test : ℕ → Bool) (w top : ℕ) (out : List (ℕ × ℕ)) (begun : Option ℕ) : Type 0
  where
    pub above : w < top
    pub rising : IsRisingFrom w out
    pub below : IsBelow (limit top begun) out
    pub within : BeginsWithin w top begun
    pub now : test top ≡ is_some begun
    pub each : (t : ℕ) → w < t → t ≤ top → test t ≡ (covers out t || is_open begun t)

open_at_start : (w : ℕ) → ltb w (w + 1) ≡ true
open_at_start w = grind (arith, nat_tests)

-- at the first value point the test is as it opens
pub swept_start : (test : ℕ → Bool) (w : ℕ) (opens : Bool) → test (w + 1) ≡ opens
    → IsSwept test w (w + 1) [] (begun_after None opens w)
swept_start test w false none = record {
  above = omega arith;
  rising = tt;
  below = tt;
  within = tt;
  now = none;
  each = λ t low high. (let is : t ≡ w + 1 = omega arith in ap test is) ∙ none;
}
swept_start test w true some = record {
  above = omega arith;
  rising = tt;
  below = tt;
  within = (omega arith, omega arith);
  now = some;
  each = λ t low high.
      let is : t ≡ w + 1 = omega arith in
      ap test is ∙ some ∙ sym (open_at_start w) ∙ ap (λ (u : ℕ). ltb w u) (sym is);
}

below_limit : (top : ℕ) (w : ℕ) (begun : Option ℕ) (out : List (ℕ × ℕ)) → BeginsWithin w top begun
    → IsBelow (limit top begun) out → IsBelow top out
below_limit top w None out within below = below
below_limit top w (Some a) out within below = below_more a top out below (omega (arith, within.1))

limit_more : (w top more : ℕ) (begun : Option ℕ) (out : List (ℕ × ℕ))
    → IsBelow (limit top begun) out → top ≤ more → IsBelow (limit more begun) out
limit_more w top more None out below le = below_more top more out below le
limit_more w top more (Some a) out below le = below

extended_at : (test : ℕ → Bool) (w top more : ℕ) (out : List (ℕ × ℕ)) (begun : Option ℕ)
    → IsSwept test w top out begun →
    ((t : ℕ) → top ≤ t → t ≤ more → test t ≡ test top) → (t : ℕ) → w < t → t ≤ more → (t ≤ top)
    ⊎ (top < t) →
    test t ≡ (covers out t || is_open begun t)
extended_at test w top more out begun s same t low high (inl le) = s.each t low le
extended_at test w top more out begun s same t low high (inr lt) =
    let none : covers out t ≡ false = covers_above top out t (below_limit top w begun out s.within
    s.below) (omega arith) in
    same t (omega arith) high ∙ s.now ∙ sym (open_beyond w top t begun s.within (omega arith))
    ∙ ap (λ (b : Bool). b || is_open begun t) (sym none)

-- further, over points at which the test stays
pub swept_further : (test : ℕ → Bool) (w top more : ℕ) (out : List (ℕ × ℕ)) (begun : Option ℕ)
    → IsSwept test w top out begun →
    top ≤ more → ((t : ℕ) → top ≤ t → t ≤ more → test t ≡ test top) → IsSwept test w more out begun
swept_further test w top more out begun s le same = record {
  above = omega (arith, s.above);
  rising = s.rising;
  below = limit_more w top more begun out s.below le;
  within = within_more w top more begun s.within le;
  now = same more le (omega arith) ∙ s.now;
  each = λ t low high. extended_at test w top more out begun s same t low high (le_or_above t top);
}

-- The span that was begun is closed at this point.
closed_each : (test : ℕ → Bool) (w at a : ℕ) (out : List (ℕ × ℕ)) → IsSwept test w at out (Some a)
    → test (at + 1) ≡ false →
    (t : ℕ) → w < t → t ≤ at + 1 → (t ≤ at) ⊎ (at < t) → test t ≡ (covers (out ++ (a, at) ∷ []) t
    || false)
closed_each test w at a out s none t low high (inl le) =
    let one : ltb a t ≡ (covers ((a, at) ∷ []) t) = grind (arith, nat_tests) in
    s.each t low le ∙ ap (λ (b : Bool). covers out t || b) one
    ∙ sym (covers_append out ((a, at) ∷ []) t) ∙ sym (or-false _)
closed_each test w at a out s none t low high (inr lt) =
    let is : t ≡ at + 1 = omega arith in
    let below : IsBelow (at + 1) (out ++ (a, at) ∷ []) =
    below_push (at + 1) (a, at) out (below_more a (at + 1) out s.below (omega (arith, s.within.1)))
    (omega arith) in
    ap test is ∙ none ∙ sym (covers_above (at + 1) (out ++ (a, at) ∷ []) t below (omega arith))
    ∙ sym (or-false _)

-- past a point at which the test is as these say
last_each : (test : ℕ → Bool) (w at : ℕ) (out : List (ℕ × ℕ)) (begun now : Option ℕ)
    → IsSwept test w at out begun →
    test (at + 1) ≡ is_some now → BeginsWithin w (at + 1) now →
    ((t : ℕ) → t ≤ at → is_open now t ≡ is_open begun t) →
    (t : ℕ) → w < t → t ≤ at + 1 → (t ≤ at) ⊎ (at < t) → test t ≡ (covers out t || is_open now t)
last_each test w at out begun now s here within same t low high (inl le) =
    s.each t low le ∙ ap (λ (b : Bool). covers out t || b) (sym (same t le))
last_each test w at out begun now s here within same t low high (inr lt) =
    let is : t ≡ at + 1 = omega arith in
    let none : covers out t ≡ false = covers_above at out t (below_limit at w begun out s.within
    s.below) (omega arith) in
    ap test is ∙ here ∙ sym (open_beyond w (at + 1) t now within (omega arith))
    ∙ ap (λ (b : Bool). b || is_open now t) (sym none)

unopened : (at t : ℕ) → t ≤ at → ltb at t ≡ false
unopened at t le = grind (arith, nat_tests)

-- past a point at which the value is initiated, or else ended
pub swept_past : (test : ℕ → Bool) (w at : ℕ) (out : List (ℕ × ℕ)) (begun : Option ℕ)
    (begins : Bool) → IsSwept test w at out begun →
    test (at + 1) ≡ begins → IsSwept test w (at + 1) (out ++ pairs (closed_at begun begins at))
    (begun_after begun begins at)
swept_past test w at out None true s is =
    rw (append-nil out)
    (record {
      above = omega (arith, s.above);
      rising = s.rising;
      below = s.below;
      within = (omega (arith, s.above), omega arith);
      now = is;
      each = λ t low high. last_each test w at out None (Some at) s is (
        omega (arith, s.above),
        omega arith,
      ) (λ t le. unopened at t le) t low high (le_or_above t at);
    })
swept_past test w at out None false s is =
    rw (append-nil out)
    (record {
      above = omega (arith, s.above);
      rising = s.rising;
      below = below_more at (at + 1) out s.below (omega arith);
      within = tt;
      now = is;
      each = λ t low high. last_each test w at out None None s is tt (λ t le. refl) t low high
          (le_or_above t at);
    })
swept_past test w at out (Some a) true s is =
    rw (append-nil out)
    (record {
      above = omega (arith, s.above);
      rising = s.rising;
      below = s.below;
      within = (s.within.0, omega (arith, s.within.1));
      now = is;
      each = λ t low high. last_each test w at out (Some a) (Some a) s is (
        s.within.0,
        omega (arith, s.within.1),
      ) (λ t le. refl) t low high (le_or_above t at);
    })
swept_past test w at out (Some a) false s is = record {
  above = omega (arith, s.above);
  rising = rising_push w a at out s.rising s.within.0 s.within.1 s.below;
  below = below_push (at + 1) (a, at) out (below_more a (at + 1) out s.below
      (omega (arith, s.within.1))) (omega arith);
  within = tt;
  now = is;
  each = λ t low high. closed_each test w at a out s is t low high (le_or_above t at);
}

out_of_window : (w q t : ℕ) (b : Bool) → (t ≤ w) ⊎ (q + 1 < t) → (ltb w t && leb t (q + 1) && b)
    ≡ false
out_of_window w q t b (inl low) = grind (arith, nat_tests)
out_of_window w q t b (inr high) = grind (arith, nat_tests)

in_the_window : (w q t : ℕ) (b : Bool) → w < t → t ≤ q + 1 → (ltb w t && leb t (q + 1) && b) ≡ b
in_the_window w q t true low high = grind (arith, nat_tests)
in_the_window w q t false low high = grind (arith, nat_tests)

each_by : (test : ℕ → Bool) (w q : ℕ) (out : List (ℕ × ℕ)) → IsRisingFrom w out
    → IsBelow (q + 2) out →
    ((t : ℕ) → w < t → t ≤ q + 1 → covers out t ≡ test t) → (t : ℕ) → (t ≤ w) ⊎ (w < t)
    → (t ≤ q + 1) ⊎ (q + 1 < t) →
    covers out t ≡ (ltb w t && leb t (q + 1) && test t)
each_by test w q out rising below each t (inl low) any = covers_floor w out t rising low
    ∙ sym (out_of_window w q t (test t) (inl low))
each_by test w q out rising below each t (inr above) (inl le) = each t above le
    ∙ sym (in_the_window w q t (test t) above le)
each_by test w q out rising below each t (inr above) (inr high) =
    covers_above (q + 2) out t below (omega arith) ∙ sym (out_of_window w q t (test t) (inr high))

run_by : (test : ℕ → Bool) (w q : ℕ) (out : List (ℕ × ℕ)) → IsRisingFrom w out
    → IsBelow (q + 2) out →
    ((t : ℕ) → w < t → t ≤ q + 1 → covers out t ≡ test t) → IsRowByPoints test w q out
run_by test w q out rising below each = record {
  rising = rising;
  each = λ t. each_by test w q out rising below each t (le_or_above t w) (le_or_above t (q + 1));
}

-- at the end of the window the last span is closed
pub closed_at_end : (test : ℕ → Bool) (w q : ℕ) (out : List (ℕ × ℕ)) (begun : Option ℕ)
    → IsSwept test w (q + 1) out begun →
    IsRowByPoints test w q (out ++ pairs (closed_at begun false (q + 1)))
closed_at_end test w q out None s =
    rw (append-nil out)
    (run_by test w q out s.rising (below_more (q + 1) (q + 2) out s.below (omega arith))
    (λ t low high. sym (or-false _) ∙ sym (s.each t low high)))
closed_at_end test w q out (Some a) s =
    run_by test w q (out ++ (a, q + 1) ∷ [])
    (rising_push w a (q + 1) out s.rising s.within.0 s.within.1 s.below)
    (below_push (q + 2) (a, q + 1) out (below_more a (q + 2) out s.below
    (omega (arith, s.within.1))) (omega arith))
    (λ t low high.
    let one : ltb a t ≡ (covers ((a, q + 1) ∷ []) t) = grind (arith, nat_tests) in
    covers_append out ((a, q + 1) ∷ []) t ∙ ap (λ (b : Bool). covers out t || b) (sym one)
    ∙ sym (s.each t low high))
