-- A list with one item put.
use Rattle.std.proofs.Common.{◌≡◌, ℕ, zero, suc, ◌<◌, List, [], ◌∷◌, length, set, slice_get}
use Rattle.std.proofs.Common.{Some, refl, ap, arith}

pub put_here : {X : Type 0} (xs : List X) (i : ℕ) (y : X) → i < length xs → slice_get (set xs i y) i
    ≡ Some y
put_here [] i y lt = absurd (omega (arith, lt))
put_here (x ∷ xs) zero y lt = refl
put_here (x ∷ xs) (suc i) y lt = put_here xs i y (omega (arith, lt))

pub put_apart : {X : Type 0} (xs : List X) (i j : ℕ) (y : X) → (i ≡ j → ⊥)
    → slice_get (set xs i y) j ≡ slice_get xs j
put_apart [] i j y apart = refl
put_apart (x ∷ xs) zero zero y apart = absurd (apart refl)
put_apart (x ∷ xs) zero (suc j) y apart = refl
put_apart (x ∷ xs) (suc i) zero y apart = refl
put_apart (x ∷ xs) (suc i) (suc j) y apart = put_apart xs i j y (λ same. apart (ap suc same))
