-- Public contracts speak by this: numbers in fields of a record.
use Rattle.std.specs.Prelude.{ℕ, ◌+◌, ◌-◌, ◌*◌, nat_le, Bool, ◌&&◌, if◌then◌else◌, List, [], ◌∷◌}
use Rattle.std.specs.Prelude.{length, Option, Some, None}

abbrev pub is_digit : ℕ → Bool
is_digit c = nat_le 48 c && nat_le c 57

-- the number that these digits continue, from that of the digits before them; None where one is no
-- digit
abbrev pub number_from : ℕ → List ℕ → Option ℕ
number_from n [] = Some n
number_from n (c ∷ cs) = if is_digit c then number_from (10 * n + (c - 48)) cs else None

-- 1 to 16 digits, leading zeros allowed
abbrev pub number_of : List ℕ → Option ℕ
number_of [] = None
number_of (c ∷ cs) = if nat_le (length (c ∷ cs)) 16 then number_from 0 (c ∷ cs) else None

-- one digit, 1 to 8
abbrev pub feeder_of : List ℕ → Option ℕ
feeder_of [] = None
feeder_of (c ∷ []) = if nat_le 49 c && nat_le c 56 then Some (c - 48) else None
feeder_of (c ∷ d ∷ more) = None

-- the number of a field that stands alone
abbrev pub only_number : List (List ℕ) → Option ℕ
only_number (field ∷ []) = number_of field
only_number fields = None
