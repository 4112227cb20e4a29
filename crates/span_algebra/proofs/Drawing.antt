-- A list of spans that is drawn from left to right: what is known as far as the drawing has come.
use Rattle.std.proofs.Common.{◌≡◌, ◌⊎◌, inl, inr, ℕ, ◌+◌, ◌<◌, ◌≤◌, Bool, true, false, ◌||◌, ltb}
use Rattle.std.proofs.Common.{List, [], ◌∷◌, ◌++◌, Option, Some, None, refl, sym, ◌∙◌, ap, arith}
use Rattle.std.proofs.Common.{append-nil}
use Rattle.std.proofs.Math.Bool.{or-false, or-true}
use Rattle.std.proofs.lemmas.Bool.Decides.{nat_tests}
use Rattle.std.specs.Prelude.{is_some}
use Rattle.span_algebra.specs.declared.spans.Span.{Span}
use Rattle.span_algebra.specs.Normal.{IsNormalFrom, covers}
use Rattle.span_algebra.specs.Walk.{begun_after, closed_at}
use Rattle.rt_base.proofs.Numbers.{le_or_above}
use Rattle.span_algebra.proofs.Covering.{IsBelow, below_more, below_push, normal_push, covers_above}
use Rattle.span_algebra.proofs.Covering.{covers_floor, covers_append}

-- the open span, if there is one, has the point
abbrev pub is_open : Option ℕ → ℕ → Bool
is_open None t = false
is_open (Some a) t = ltb a t

-- below it all spans end
abbrev pub limit : ℕ → Option ℕ → ℕ
limit top None = top
limit top (Some a) = a

-- the open span begins at the floor or above, below the top
abbrev pub BeginsWithin : ℕ → ℕ → Option ℕ → Type 0
BeginsWithin floor top None = Unit {0}
BeginsWithin floor top (Some a) = (floor ≤ a) × (a < top)

-- the spans and the open one are right at all points above the floor and up to the top
pub record IsDrawn (test : ℕ → Bool) (floor top : ℕ) (out : List Span) (begun : Option ℕ) : Type 0
  where
    pub low : floor ≤ top
    pub normal : IsNormalFrom floor out
    pub below : IsBelow (limit top begun) out
    pub within : BeginsWithin floor top begun
    pub each : (t : ℕ) → floor < t → t ≤ top → test t ≡ (covers out t || is_open begun t)

pub drawn_start : (test : ℕ → Bool) (floor : ℕ) → IsDrawn test floor floor [] None
drawn_start test floor = record {
  low = omega arith;
  normal = tt;
  below = tt;
  within = tt;
  each = λ t low high. absurd (omega arith);
}

below_limit : (floor top : ℕ) (begun : Option ℕ) (out : List Span) → BeginsWithin floor top begun
    → IsBelow (limit top begun) out → IsBelow top out
below_limit floor top None out within below = below
below_limit floor top (Some a) out within below = below_more a top out below
    (omega (arith, within.1))

pub open_beyond : (floor top t : ℕ) (begun : Option ℕ) → BeginsWithin floor top begun → top ≤ t
    → is_open begun t ≡ is_some begun
open_beyond floor top t None within le = refl
open_beyond floor top t (Some a) within le = grind (arith, nat_tests, within.1)

pub within_more : (floor top more : ℕ) (begun : Option ℕ) → BeginsWithin floor top begun
    → top ≤ more
    → BeginsWithin floor more begun
within_more floor top more None within le = tt
within_more floor top more (Some a) within le = (within.0, omega (arith, within.1))

limit_more : (floor top more : ℕ) (begun : Option ℕ) (out : List Span)
    → IsBelow (limit top begun) out → top ≤ more → IsBelow (limit more begun) out
limit_more floor top more None out below le = below_more top more out below le
limit_more floor top more (Some a) out below le = below

further_by : (test : ℕ → Bool) (floor top more : ℕ) (out : List Span) (begun : Option ℕ)
    → IsDrawn test floor top out begun → top ≤ more →
    ((t : ℕ) → top < t → t ≤ more → test t ≡ is_some begun) → (t : ℕ) → floor < t → t ≤ more
    → (t ≤ top) ⊎ (top < t) →
    test t ≡ (covers out t || is_open begun t)
further_by test floor top more out begun d le same t above high (inl low) = d.each t above low
further_by test floor top more out begun d le same t above high (inr beyond) =
    same t beyond high ∙ sym (open_beyond floor top t begun d.within (omega arith))
    ∙ ap (λ (b : Bool). b || is_open begun t)
    (sym (covers_above top out t (below_limit floor top begun out d.within d.below)
    (omega arith)))

-- on to a later point, as far as which nothing changes
pub drawn_further : (test : ℕ → Bool) (floor top more : ℕ) (out : List Span) (begun : Option ℕ)
    → IsDrawn test floor top out begun → top ≤ more →
    ((t : ℕ) → top < t → t ≤ more → test t ≡ is_some begun) → IsDrawn test floor more out begun
drawn_further test floor top more out begun d le same = record {
  low = omega (arith, d.low);
  normal = d.normal;
  below = limit_more floor top more begun out d.below le;
  within = within_more floor top more begun d.within le;
  each = λ t above high. further_by test floor top more out begun d le same t above high
      (le_or_above t top);
}

closed_out : (a at t : ℕ) → a < at → t ≤ at → ltb a t ≡ covers ((record { after = a; until = at })
    ∷ []) t
closed_out a at t span le = grind (arith, nat_tests)

closed_below : (floor at : ℕ) (begun : Option ℕ) (out : List Span) (test : ℕ → Bool) (t : ℕ)
    → IsDrawn test floor at out begun →
    floor < t → t ≤ at → test t ≡ (covers (out ++ closed_at begun false at) t || false)
closed_below floor at None out test t d above le = rw (append-nil out) (d.each t above le)
closed_below floor at (Some a) out test t d above le =
    d.each t above le ∙ ap (λ (b : Bool). covers out t || b) (closed_out a at t d.within.1 le)
    ∙ sym (covers_append out (record { after = a; until = at } ∷ []) t) ∙ sym (or-false _)

closed_above : (floor at : ℕ) (begun : Option ℕ) (out : List Span) (test : ℕ → Bool) (t : ℕ)
    → IsDrawn test floor at out begun →
    at < t → (covers (out ++ closed_at begun false at) t || false) ≡ false
closed_above floor at None out test t d lt = rw (append-nil out) (or-false _
    ∙ covers_above at out t d.below (omega arith))
closed_above floor at (Some a) out test t d lt =
    or-false _ ∙ covers_append out (record { after = a; until = at } ∷ []) t
    ∙ ap (λ (b : Bool). b || covers (record { after = a; until = at } ∷ []) t)
    (covers_above a out t d.below (omega (arith, d.within.1)))
    ∙ (let none : covers (record { after = a; until = at } ∷ []) t ≡ false =
    grind (arith, nat_tests) in none)

closed_normal : (test : ℕ → Bool) (floor at : ℕ) (begun : Option ℕ) (out : List Span)
    → IsDrawn test floor at out begun →
    IsNormalFrom floor (out ++ closed_at begun false at)
closed_normal test floor at None out d = rw (append-nil out) d.normal
closed_normal test floor at (Some a) out d = normal_push floor (record { after = a; until = at })
    out d.normal d.within.0 d.within.1 d.below

closed_limit : (test : ℕ → Bool) (floor at : ℕ) (begun : Option ℕ) (out : List Span)
    → IsDrawn test floor at out begun →
    IsBelow (at + 1) (out ++ closed_at begun false at)
closed_limit test floor at None out d = rw (append-nil out) (below_more at (at + 1) out d.below
    (omega arith))
closed_limit test floor at (Some a) out d =
    below_push (at + 1) (record { after = a; until = at }) out (below_more a (at + 1) out d.below
    (omega (arith, d.within.1))) (omega arith)

past_by : (test : ℕ → Bool) (floor at : ℕ) (out : List Span) (begun : Option ℕ) (holds : Bool)
    → IsDrawn test floor at out begun → test (at + 1) ≡ holds →
    (t : ℕ) → floor < t → t ≤ at + 1 → (t ≤ at) ⊎ (at < t) →
    test t ≡ (covers (out ++ closed_at begun holds at) t || is_open (begun_after begun holds at) t)
past_by test floor at out begun false d is t above high (inl le) = closed_below floor at begun out
    test t d above le
past_by test floor at out begun false d is t above high (inr lt) =
    (let same : t ≡ at + 1 = omega arith in ap test same) ∙ is
    ∙ sym (closed_above floor at begun out test t d lt)
past_by test floor at out None true d is t above high (inl le) =
    let no : ltb at t ≡ false = grind (arith, nat_tests) in
    rw (append-nil out, no) (d.each t above le)
past_by test floor at out (Some a) true d is t above high (inl le) =
    rw (append-nil out) (d.each t above le)
past_by test floor at out None true d is t above high (inr lt) =
    let yes : ltb at t ≡ true = grind (arith, nat_tests) in
    (let same : t ≡ at + 1 = omega arith in ap test same) ∙ is
    ∙ rw yes (sym (or-true (covers (out ++ []) t)))
past_by test floor at out (Some a) true d is t above high (inr lt) =
    let yes : ltb a t ≡ true = grind (arith, nat_tests, d.within.1) in
    (let same : t ≡ at + 1 = omega arith in ap test same) ∙ is
    ∙ rw yes (sym (or-true (covers (out ++ []) t)))

past_normal : (test : ℕ → Bool) (floor at : ℕ) (out : List Span) (begun : Option ℕ) (holds : Bool)
    → IsDrawn test floor at out begun →
    IsNormalFrom floor (out ++ closed_at begun holds at)
past_normal test floor at out begun false d = closed_normal test floor at begun out d
past_normal test floor at out begun true d = rw (append-nil out) d.normal

past_below : (test : ℕ → Bool) (floor at : ℕ) (out : List Span) (begun : Option ℕ) (holds : Bool)
    → IsDrawn test floor at out begun →
    IsBelow (limit (at + 1) (begun_after begun holds at)) (out ++ closed_at begun holds at)
past_below test floor at out begun false d = closed_limit test floor at begun out d
past_below test floor at out None true d = rw (append-nil out) d.below
past_below test floor at out (Some a) true d = rw (append-nil out) d.below

past_within : (floor at : ℕ) (begun : Option ℕ) (holds : Bool) → floor ≤ at
    → BeginsWithin floor at begun → BeginsWithin floor (at + 1) (begun_after begun holds at)
past_within floor at begun false le within = tt
past_within floor at None true le within = (le, omega arith)
past_within floor at (Some a) true le within = (within.0, omega (arith, within.1))

-- over a point, after which the test holds or not
pub drawn_past : (test : ℕ → Bool) (floor at : ℕ) (out : List Span) (begun : Option ℕ)
    (holds : Bool) → IsDrawn test floor at out begun → test (at + 1) ≡ holds →
    IsDrawn test floor (at + 1) (out ++ closed_at begun holds at) (begun_after begun holds at)
drawn_past test floor at out begun holds d is = record {
  low = omega (arith, d.low);
  normal = past_normal test floor at out begun holds d;
  below = past_below test floor at out begun holds d;
  within = past_within floor at begun holds d.low d.within;
  each = λ t above high. past_by test floor at out begun holds d is t above high (le_or_above t at);
}

pub is_some_after : (begun : Option ℕ) (holds : Bool) (at : ℕ)
    → is_some (begun_after begun holds at) ≡ holds
is_some_after begun false at = refl
is_some_after None true at = refl
is_some_after (Some a) true at = refl

-- the end: nothing is open, and nothing holds at or below the floor or beyond the top
pub record IsDone (test : ℕ → Bool) (floor : ℕ) (out : List Span) : Type 0 where
  pub normal : IsNormalFrom floor out
  pub each : (t : ℕ) → covers out t ≡ test t

done_by : (test : ℕ → Bool) (floor top : ℕ) (out : List Span) → IsDrawn test floor top out None →
    ((t : ℕ) → t ≤ floor → test t ≡ false) → ((t : ℕ) → top < t → test t ≡ false) →
    (t : ℕ) → (t ≤ floor) ⊎ (floor < t) → (t ≤ top) ⊎ (top < t) → covers out t ≡ test t
done_by test floor top out d before after t (inl low) any = covers_floor floor out t d.normal low
    ∙ sym (before t low)
done_by test floor top out d before after t (inr above) (inl le) = sym (or-false _)
    ∙ sym (d.each t above le)
done_by test floor top out d before after t (inr above) (inr lt) = covers_above top out t d.below
    (omega arith) ∙ sym (after t lt)

pub drawn_end : (test : ℕ → Bool) (floor top : ℕ) (out : List Span)
    → IsDrawn test floor top out None →
    ((t : ℕ) → t ≤ floor → test t ≡ false) → ((t : ℕ) → top < t → test t ≡ false)
    → IsDone test floor out
drawn_end test floor top out d before after = record {
  normal = d.normal;
  each = λ t. done_by test floor top out d before after t (le_or_above t floor) (le_or_above t top);
}
