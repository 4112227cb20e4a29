-- Public contracts speak by this: *Rows*, the rising list of maximal runs of a fluent-value, and
-- the rising list of points of a derived event. The span (a, b] is the pair of a and b.
use Rattle.std.specs.Prelude.{◌≡◌, ◌⊎◌, ℕ, zero, suc, ◌+◌, ◌-◌, ◌<◌, ◌≤◌, nat_lt, nat_le, Bool}
use Rattle.std.specs.Prelude.{true, false, ◌&&◌, ◌==◌, ◌↔◌, if◌then◌else◌, List, [], ◌∷◌, filter}
use Rattle.std.specs.List.{list_any, range_with_len}
use Rattle.ground_types.specs.Members.{contains}

-- A point after a goes to a rising list of spans that end at a or before it: it lengthens a last
-- span that ends at a, or is a span of its own.
abbrev pub with_point : ℕ → List (ℕ × ℕ) → List (ℕ × ℕ)
with_point a [] = (a, a + 1) ∷ []
with_point a (s ∷ []) = if s.1 == a then (s.0, a + 1) ∷ [] else s ∷ (a, a + 1) ∷ []
with_point a (s ∷ t ∷ rest) = s ∷ with_point a (t ∷ rest)

-- the maximal runs of a test over the n points after w
abbrev pub runs : (ℕ → Bool) → ℕ → ℕ → List (ℕ × ℕ)
runs test w zero = []
runs test w (suc n) = if test (w + suc n) then with_point (w + n) (runs test w n) else runs test w n

-- the row of a fluent-value that holds where the test is true, over the value points of the window
-- (w, q]
abbrev pub row : (ℕ → Bool) → ℕ → ℕ → List (ℕ × ℕ)
row test w q = runs test w (q + 1 - w)

-- the row of a derived event that occurs where the test is true: its event points in the window (w,
-- q]
abbrev pub points : (ℕ → Bool) → ℕ → ℕ → List ℕ
points test w q = filter test (range_with_len (w + 1) (q - w))

-- (a, b] is a maximal run of value points of (w, q] at which the test is true
pub record IsRun (test : ℕ → Bool) (w q a b : ℕ) : Type 0 where
  pub within : (w ≤ a) × (a < b) × (b ≤ q + 1)
  pub holds : (t : ℕ) → a < t → t ≤ b → test t ≡ true
  pub starts : (a ≡ w) ⊎ (test a ≡ false)
  pub ends : (b ≡ q + 1) ⊎ (test (b + 1) ≡ false)

-- each span has a point, the first begins at w or later, and each ends below the beginning of the
-- next
abbrev pub IsRisingFrom : ℕ → List (ℕ × ℕ) → Type 0
IsRisingFrom w [] = Unit {0}
IsRisingFrom w (s ∷ rest) = (w ≤ s.0) × (s.0 < s.1) × IsRisingFrom (s.1 + 1) rest

-- some span has the point
abbrev pub covers : List (ℕ × ℕ) → ℕ → Bool
covers spans t = list_any (λ s. nat_lt s.0 t && nat_le t s.1) spans

-- (a, b] is one of the spans
abbrev pub IsSpanOf : List (ℕ × ℕ) → ℕ → ℕ → Type 0
IsSpanOf [] a b = ⊥
IsSpanOf (s ∷ rest) a b = ((s.0 ≡ a) × (s.1 ≡ b)) ⊎ IsSpanOf rest a b

-- the literal meaning of a fluent-value's row: the rising list of all maximal runs
pub record IsRow (test : ℕ → Bool) (w q : ℕ) (spans : List (ℕ × ℕ)) : Type 0 where
  pub rising : IsRisingFrom w spans
  pub each : (a b : ℕ) → IsSpanOf spans a b ↔ IsRun test w q a b

-- the same said by points: rising, and covering exactly the value points at which the test is true
pub record IsRowByPoints (test : ℕ → Bool) (w q : ℕ) (spans : List (ℕ × ℕ)) : Type 0 where
  pub rising : IsRisingFrom w spans
  pub each : (t : ℕ) → covers spans t ≡ (nat_lt w t && nat_le t (q + 1) && test t)

-- the points rise, from this one on
abbrev pub ArePointsFrom : ℕ → List ℕ → Type 0
ArePointsFrom floor [] = Unit {0}
ArePointsFrom floor (p ∷ rest) = (floor ≤ p) × ArePointsFrom (p + 1) rest

-- the literal meaning of a derived event's row: the rising list of exactly the event points at
-- which the test is true
pub record ArePoints (test : ℕ → Bool) (w q : ℕ) (list : List ℕ) : Type 0 where
  pub rising : ArePointsFrom (w + 1) list
  pub each : (t : ℕ) → contains list t ≡ (nat_lt w t && nat_le t q && test t)
