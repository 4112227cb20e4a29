-- Public contracts speak by this: the rows of the values of a simple fluent, from the points at
-- which each is initiated and terminated.
use Rattle.std.specs.Prelude.{ℕ, ◌<◌, ◌≤◌, List, [], ◌∷◌, map, length, Option, Some, None}
use Rattle.std.specs.List.{range_with_len}
use Rattle.ground_types.specs.Inertia.{has_value}
use Rattle.ground_types.specs.Rows.{row}
pub use Rattle.span_algebra.specs.Normal.{pair, pairs}

-- each point is an event point of the window (w, q]
abbrev pub IsInside : ℕ → ℕ → List ℕ → Type 0
IsInside w q [] = Unit {0}
IsInside w q (p ∷ rest) = (w < p) × (p ≤ q) × IsInside w q rest

-- the value is one of so many, if there is one
abbrev pub IsValueBelow : ℕ → Option ℕ → Type 0
IsValueBelow count None = Unit {0}
IsValueBelow count (Some v) = v < count

-- the row of each value, in the order of the values
abbrev pub rows_of : Option ℕ → List (List ℕ) → List (List ℕ) → ℕ → ℕ → List (List (ℕ × ℕ))
rows_of opening inits terms w q = map (λ v. row (has_value opening inits terms w v) w q)
    (range_with_len 0 (length inits))
