-- For private functions alone: the counts of units, of which some are not there yet.
use Rattle.std.specs.Prelude.{ℕ, List, slice_get, Option, None, Some}

-- the count at a place of a list, 0 where there is none
abbrev pub count_or_none : Option (Option ℕ) → ℕ
count_or_none None = 0
count_or_none (Some None) = 0
count_or_none (Some (Some count)) = count

-- the count of the unit of this number
abbrev pub count_of : List (Option ℕ) → ℕ → ℕ
count_of counts unit = count_or_none (slice_get counts unit)
