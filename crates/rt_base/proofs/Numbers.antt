-- Cases of numbers.
use Rattle.std.proofs.Common.{◌≡◌, ◌⊎◌, ℕ, ◌<◌, ◌≤◌, arith}
use Rattle.std.proofs.lemmas.Bool.Decides.{nat_tests}

pub le_or_above : (m n : ℕ) → (m ≤ n) ⊎ (n < m)
le_or_above m n = grind (arith, nat_tests)

pub equal_from_bounds : (m n : ℕ) → (m < n → ⊥) → (n < m → ⊥) → m ≡ n
equal_from_bounds m n a b = grind arith
