-- Public contracts speak by this: lists of numbers.
use Rattle.std.specs.Prelude.{ℕ, Bool, ◌==◌, List}
use Rattle.std.specs.List.{list_any}

-- the number is in the list
abbrev pub contains : List ℕ → ℕ → Bool
contains xs x = list_any (λ y. y == x) xs
