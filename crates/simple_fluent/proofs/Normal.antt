-- Where a span is open in a row, it can be closed.
use Rattle.std.proofs.Common.{ℕ, ◌+◌, Bool, List, [], ◌∷◌, ◌++◌, Some, sym, subst, arith}
use Rattle.std.proofs.lemmas.List.{map-append}
use Rattle.span_algebra.specs.declared.spans.Span.{Span}
use Rattle.span_algebra.specs.Normal.{IsNormalFrom, IsNormal}
use Rattle.ground_types.specs.Rows.{IsRisingFrom}
use Rattle.ground_types.proofs.Rows.{rising_push}
use Rattle.span_algebra.specs.Normal.{pair, pairs}
use Rattle.simple_fluent.proofs.Swept.{IsSwept}

normal_from : (floor : ℕ) (spans : List Span) → IsRisingFrom floor (pairs spans)
    → IsNormalFrom floor spans
normal_from floor [] rising = tt
normal_from floor (s ∷ rest) rising = (rising.0, rising.1, normal_from (s.until + 1) rest rising.2)

lower : (floor : ℕ) (spans : List Span) → IsNormalFrom floor spans → IsNormal spans
lower floor [] normal = tt
lower floor (s ∷ rest) normal = (omega arith, normal.1, normal.2)

pub can_close : (test : ℕ → Bool) (w at since : ℕ) (spans : List Span)
    → IsSwept test w at (pairs spans) (Some since) →
    IsNormal (spans ++ (record { after = since; until = at }) ∷ [])
can_close test w at since spans s =
    lower w _ (normal_from w _
    (subst (λ (xs : List (ℕ × ℕ)). IsRisingFrom w xs)
    (sym (map-append pair spans (record { after = since; until = at } ∷ [])))
    (rising_push w since at (pairs spans) s.rising s.within.0 s.within.1 s.below)))
