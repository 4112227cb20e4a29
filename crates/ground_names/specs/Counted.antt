-- Public contracts speak by this: numbers that stop at the greatest u64, and the places of lists of
-- numbers.
use Rattle.std.specs.Prelude.{ℕ, ◌+◌, ◌-◌, ◌*◌, ◌^◌, min, nat_lt, Bool, List, length, Option, Some}
use Rattle.std.specs.Prelude.{None, if◌then◌else◌}
use Rattle.ground_types.specs.Sound.{arguments_of}
use Rattle.ground_types.specs.declared.program.Domain.{Domain}
use Rattle.ground_types.specs.declared.program.Name.{Name}

-- a number, or the greatest u64 where it is more
abbrev pub capped : ℕ → ℕ
capped n = min n (2 ^ 64 - 1)

-- The place of a list of numbers below sizes among all such lists, from that of the list of all
-- numbers but the last. A number that is not below its size has none.
abbrev pub ranked : Option ℕ → ℕ × ℕ → Option ℕ
ranked None (size, number) = None
ranked (Some place) (size, number) = if nat_lt number size then Some (place * size + number)
    else None

-- the ground events or units of a name have numbers below 2^32
abbrev pub has_small_numbers : List Domain → Name → Bool
has_small_numbers domains name = nat_lt (name.first + length (arguments_of domains name)) (2 ^ 32)
