-- Public contracts speak by this: normal lists of spans, rising lists of points, and the points
-- that they have.
use Rattle.std.specs.Prelude.{ℕ, ◌+◌, ◌<◌, ◌≤◌, nat_lt, nat_le, Bool, ◌&&◌, ◌==◌}
use Rattle.std.specs.Prelude.{List, [], ◌∷◌, map, length, take}
use Rattle.std.specs.List.{list_any}
use Rattle.span_algebra.specs.declared.spans.Span.{Span}

-- each span begins at the floor or above, is not empty, and ends below the beginning of the next
abbrev pub IsNormalFrom : ℕ → List Span → Type 0
IsNormalFrom floor [] = Unit {0}
IsNormalFrom floor (s ∷ rest) = (floor ≤ s.after) × (s.after < s.until)
    × IsNormalFrom (s.until + 1) rest

-- a normal list of spans: they rise, none is empty, and no two touch or overlap
abbrev pub IsNormal : List Span → Type 0
IsNormal spans = IsNormalFrom 0 spans

-- some span has the point: it lies after `after`, up to and with `until`
abbrev pub covers : List Span → ℕ → Bool
covers spans t = list_any (λ s. nat_lt s.after t && nat_le t s.until) spans

-- a span as the pair of the points before its first and of its last
abbrev pub pair : Span → ℕ × ℕ
pair span = (span.after, span.until)

abbrev pub pairs : List Span → List (ℕ × ℕ)
pairs spans = map pair spans

-- each point is the floor or above, and below the next
abbrev pub IsRisingFrom : ℕ → List ℕ → Type 0
IsRisingFrom floor [] = Unit {0}
IsRisingFrom floor (p ∷ rest) = (floor ≤ p) × IsRisingFrom (p + 1) rest

-- a rising list of points: each is above the one before it
abbrev pub IsRising : List ℕ → Type 0
IsRising points = IsRisingFrom 0 points

-- the point is among them
abbrev pub has : List ℕ → ℕ → Bool
has points t = list_any (λ p. p == t) points

-- the first item that breaks a rule: the rule holds of the items before it, and not with it
pub record IsFirstBad {X : Type 0} (Rule : List X → Type 0) (items : List X) (place : ℕ) : Type 0
  where
    pub within : place < length items
    pub before : Rule (take place items)
    pub here : Rule (take (place + 1) items) → ⊥
