-- For private functions alone: points at which some value is initiated, each with the first such
-- value, and how two lists of them become one.
use Rattle.std.specs.Prelude.{ℕ, ◌+◌, ◌≤◌, nat_le, ◌==◌, if◌then◌else◌, List, [], ◌∷◌, Option, Some}
use Rattle.std.specs.Prelude.{None}
use Rattle.ground_types.specs.Members.{contains}
use Rattle.simple_fluent.specs.declared.firsts.First.{First}

-- the first value, counted from this one on, whose list has the point
abbrev pub least_with : ℕ → List (List ℕ) → ℕ → Option ℕ
least_with v [] t = None
least_with v (points ∷ rest) t = if contains points t then Some v else least_with (v + 1) rest t

-- the points rise, from the floor on
abbrev pub RisesFrom : ℕ → List First → Type 0
RisesFrom floor [] = Unit {0}
RisesFrom floor (x ∷ rest) = (floor ≤ x.at) × RisesFrom (x.at + 1) rest

-- the value at a point
abbrev pub value_in : List First → ℕ → Option ℕ
value_in [] t = None
value_in (x ∷ rest) t = if x.at == t then Some x.value else value_in rest t

-- the first of two, if it is there
abbrev pub or_else : Option ℕ → Option ℕ → Option ℕ
or_else None b = b
or_else (Some a) b = Some a

-- the front of a list
abbrev pub first_of : List First → Option First
first_of [] = None
first_of (x ∷ rest) = Some x

-- the earlier of two, and the first of them where they are at one point
abbrev pub earlier : Option First → Option First → Option First
earlier None b = b
earlier (Some a) None = Some a
earlier (Some a) (Some b) = if nat_le a.at b.at then Some a else Some b

-- the list without its front, where that is at the point
abbrev pub past_first : List First → ℕ → List First
past_first [] at = []
past_first (x ∷ rest) at = if x.at == at then rest else x ∷ rest
