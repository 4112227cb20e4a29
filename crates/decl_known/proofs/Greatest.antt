-- The greatest layer of names.
use Rattle.std.proofs.Common.{◌≡◌, ℕ, max, List, ◌∷◌, arith}
use Rattle.std.proofs.lemmas.Bool.Decides.{nat_tests}
use Rattle.decl_known.specs.Layers.{greatest}

pub greatest_cons : (n : ℕ) (ns : List ℕ) → greatest (n ∷ ns) ≡ max n (greatest ns)
greatest_cons n ns = grind (arith, nat_tests)
