-- For private functions alone: the fronts of two rising lists of points that are walked together.
use Rattle.std.specs.Prelude.{ℕ, nat_le, Bool, false, ◌==◌, if◌then◌else◌, List, [], ◌∷◌, Option}
use Rattle.std.specs.Prelude.{None, Some}

-- the lower of two points that may be missing
abbrev pub lower : Option ℕ → Option ℕ → Option ℕ
lower None two = two
lower (Some one) None = Some one
lower (Some one) (Some two) = if nat_le one two then Some one else Some two

-- the first of the points is this one
abbrev pub begins : List ℕ → ℕ → Bool
begins [] at = false
begins (p ∷ rest) at = p == at

-- the points after this one, where it is the first
abbrev pub past : List ℕ → ℕ → List ℕ
past [] at = []
past (p ∷ rest) at = if p == at then rest else p ∷ rest
