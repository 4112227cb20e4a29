-- A row starts and ends at the borders of its spans.
use Rattle.std.proofs.Common.{◌≡◌, ◌⊎◌, inl, inr, ℕ, ◌+◌, ◌<◌, ◌≤◌, Bool, false, not, ◌&&◌, ◌||◌}
use Rattle.std.proofs.Common.{leb, ltb, eqb, List, [], ◌∷◌, map, filter, refl, sym, ◌∙◌, arith}
use Rattle.std.proofs.lemmas.Bool.Decides.{nat_tests}
use Rattle.span_algebra.specs.declared.spans.Span.{Span}
use Rattle.span_algebra.specs.Normal.{IsNormal, IsNormalFrom, IsRising, IsRisingFrom}
use Rattle.span_algebra.proofs.Covering.{covers_miss, covers_floor}
use Rattle.span_algebra.proofs.Having.{has_floor}
use Rattle.span_algebra.proofs.Parts.{rising_lower, rising_filter}
use Rattle.rt_base.proofs.Numbers.{le_or_above}
use Rattle.ground_types.specs.Members.{contains}
use Rattle.ground_types.specs.Rows.{points}
use Rattle.derived_event.specs.Happening.{is_start, is_end}
use Rattle.derived_event.specs.Borders.{border_of}
use Rattle.derived_event.specs.declared.happening.Border.{Border}
use Rattle.derived_event.specs.declared.happening.Border.TheVariants.{After, Until}
use Rattle.derived_event.proofs.Rising.{points_by}

afters_rise : (floor : ℕ) (xs : List Span) → IsNormalFrom floor xs
    → IsRisingFrom floor (map (λ s. s.after) xs)
afters_rise floor [] normal = tt
afters_rise floor (s ∷ rest) normal = (
  normal.0,
  rising_lower (s.until + 1) (s.after + 1) (map (λ s. s.after) rest)
      (afters_rise (s.until + 1) rest normal.2) (omega (arith, normal.1)),
)

untils_rise : (floor : ℕ) (xs : List Span) → IsNormalFrom floor xs
    → IsRisingFrom floor (map (λ s. s.until) xs)
untils_rise floor [] normal = tt
untils_rise floor (s ∷ rest) normal = (
  omega (arith, normal.0, normal.1),
  untils_rise (s.until + 1)
      rest normal.2,
)

start_only : (a b t : ℕ) → a < b → t ≤ b → (eqb a t || false)
    ≡ (not ((ltb a t && leb t b) || false) && ((ltb a (t + 1) && leb (t + 1) b) || false))
start_only a b t span le = grind (arith, nat_tests)

end_only : (a b t : ℕ) → a < b → t ≤ b → (eqb b t || false) ≡ (((ltb a t && leb t b) || false)
    && not ((ltb a (t + 1) && leb (t + 1) b) || false))
end_only a b t span le = grind (arith, nat_tests)

-- up to the end of the first span, no later span has a say
start_here : (a b t : ℕ) (h c d : Bool) → a < b → t ≤ b → h ≡ false → c ≡ false → d ≡ false →
    (eqb a t || h) ≡ (not ((ltb a t && leb t b) || c) && ((ltb a (t + 1) && leb (t + 1) b) || d))
start_here a b t h c d span le p q r = rw (p, q, r) (start_only a b t span le)

end_here : (a b t : ℕ) (h c d : Bool) → a < b → t ≤ b → h ≡ false → c ≡ false → d ≡ false →
    (eqb b t || h) ≡ (((ltb a t && leb t b) || c) && not ((ltb a (t + 1) && leb (t + 1) b) || d))
end_here a b t h c d span le p q r = rw (p, q, r) (end_only a b t span le)

afters_by : (floor : ℕ) (s : Span) (rest : List Span) (t : ℕ) → IsNormalFrom floor (s ∷ rest)
    → (t ≤ s.until) ⊎ (s.until < t) →
    contains (map (λ x. x.after) rest) t ≡ is_start rest t
    → contains (map (λ x. x.after) (s ∷ rest)) t ≡ is_start (s ∷ rest) t
afters_by floor s rest t normal (inl le) go =
    start_here s.after s.until t _ _ _ normal.1 le
    (has_floor (s.until + 1) _ t (afters_rise (s.until + 1) rest normal.2) (omega arith))
    (covers_floor (s.until + 1) rest t normal.2 (omega arith)) (covers_floor (s.until + 1) rest
    (t + 1) normal.2 (omega arith))
afters_by floor s rest t normal (inr lt) go =
    let no : eqb s.after t ≡ false = grind (arith, nat_tests, normal.1) in
    rw no (go ∙ sym (rw (
      covers_miss s rest (t + 1) (inr (omega arith)),
      covers_miss s rest t
          (inr lt),
    ) refl))

untils_by : (floor : ℕ) (s : Span) (rest : List Span) (t : ℕ) → IsNormalFrom floor (s ∷ rest)
    → (t ≤ s.until) ⊎ (s.until < t) →
    contains (map (λ x. x.until) rest) t ≡ is_end rest t → contains (map (λ x. x.until) (s ∷ rest))
    t ≡ is_end (s ∷ rest) t
untils_by floor s rest t normal (inl le) go =
    end_here s.after s.until t _ _ _ normal.1 le
    (has_floor (s.until + 1) _ t (untils_rise (s.until + 1) rest normal.2) (omega arith))
    (covers_floor (s.until + 1) rest t normal.2 (omega arith)) (covers_floor (s.until + 1) rest
    (t + 1) normal.2 (omega arith))
untils_by floor s rest t normal (inr lt) go =
    let no : eqb s.until t ≡ false = grind (arith, nat_tests) in
    rw no (go ∙ sym (rw (
      covers_miss s rest (t + 1) (inr (omega arith)),
      covers_miss s rest t
          (inr lt),
    ) refl))

-- a row starts at the points before its spans, and nowhere else
afters_are : (floor : ℕ) (xs : List Span) (t : ℕ) → IsNormalFrom floor xs
    → contains (map (λ s. s.after) xs) t ≡ is_start xs t
afters_are floor [] t normal = refl
afters_are floor (s ∷ rest) t normal = afters_by floor s rest t normal (le_or_above t s.until)
    (afters_are (s.until + 1) rest t normal.2)

-- and it ends at their last points
untils_are : (floor : ℕ) (xs : List Span) (t : ℕ) → IsNormalFrom floor xs
    → contains (map (λ s. s.until) xs) t ≡ is_end xs t
untils_are floor [] t normal = refl
untils_are floor (s ∷ rest) t normal = untils_by floor s rest t normal (le_or_above t s.until)
    (untils_are (s.until + 1) rest t normal.2)

borders_rise : (border : Border) (row : List Span) → IsNormal row
    → IsRising (map (border_of border) row)
borders_rise After row normal = afters_rise 0 row normal
borders_rise Until row normal = untils_rise 0 row normal

-- those in a window rise too
pub borders_in_rise : (border : Border) (row : List Span) (w q : ℕ) → IsNormal row
    → IsRising (filter (λ p. ltb w p && leb p q) (map (border_of border) row))
borders_in_rise border row w q normal = rising_filter (λ p. ltb w p && leb p q) 0
    (map (border_of border) row) (borders_rise border row normal)

pub starts_are : (row : List Span) (w q : ℕ) → IsNormal row →
    filter (λ p. ltb w p && leb p q) (map (border_of After) row) ≡ points (is_start row) w q
starts_are row w q normal =
    points_by (is_start row) w q (map (border_of After) row) (borders_rise After row normal)
    (λ t. afters_are 0 row t normal)

pub ends_are : (row : List Span) (w q : ℕ) → IsNormal row →
    filter (λ p. ltb w p && leb p q) (map (border_of Until) row) ≡ points (is_end row) w q
ends_are row w q normal =
    points_by (is_end row) w q (map (border_of Until) row) (borders_rise Until row normal)
    (λ t. untils_are 0 row t normal)
