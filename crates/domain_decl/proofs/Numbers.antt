-- The numbers of the statements of one kind, one after the other.
use Rattle.std.proofs.Common.{◌≡◌, ℕ, List, [], ◌∷◌, ◌++◌, Option, Some, None, refl}
use Rattle.std.specs.List.{cons_option}
use Rattle.domain_decl.specs.Given.{given_by, with_number}

pub given_by-next : (ns : List ℕ) (o : Option ℕ) → given_by (ns ++ cons_option o [])
    ≡ with_number (given_by ns) o
given_by-next [] None = refl
given_by-next [] (Some m) = refl
given_by-next (n ∷ []) None = refl
given_by-next (n ∷ []) (Some m) = refl
given_by-next (n ∷ k ∷ ns) None = refl
given_by-next (n ∷ k ∷ ns) (Some m) = refl
