-- What stands where in a list that grows.
use Rattle.std.proofs.Common.{◌≡◌, ◌⊎◌, inl, inr, ℕ, zero, suc, ◌+◌, ◌<◌, List, [], ◌∷◌, ◌++◌, length}
use Rattle.std.proofs.Common.{slice_get, Some, refl, arith}
use Rattle.std.proofs.lemmas.Option.{same_Some}

pub get_left : {X : Type 0} (xs ys : List X) (i : ℕ) → i < length xs
    → slice_get (xs ++ ys) i ≡ slice_get xs i
get_left [] ys i within = absurd (omega (arith, within))
get_left (x ∷ xs) ys zero within = refl
get_left (x ∷ xs) ys (suc i) within = get_left xs ys i (omega (arith, within))

pub get_last : {X : Type 0} (xs : List X) (x : X) → slice_get (xs ++ x ∷ []) (length xs) ≡ Some x
get_last [] x = refl
get_last (y ∷ ys) x = get_last ys x

one_later : {X : Type 0} (zs : List X) (z x y : X) (i : ℕ)
    → (slice_get zs i ≡ Some y) ⊎ ((i ≡ length zs) × (x ≡ y))
    → (slice_get zs i ≡ Some y) ⊎ ((suc i ≡ length (z ∷ zs)) × (x ≡ y))
one_later zs z x y i (inl early) = inl early
one_later zs z x y i (inr (at, same)) = inr (omega (arith, at), same)

-- an item of a list with one more is an old one or the last one
pub old_or_last : {X : Type 0} (xs : List X) (x y : X) (i : ℕ)
    → slice_get (xs ++ x ∷ []) i ≡ Some y
    → (slice_get xs i ≡ Some y) ⊎ ((i ≡ length xs) × (x ≡ y))
old_or_last [] x y zero at = inr (refl, same_Some x y at)
old_or_last [] x y (suc i) at = cc
old_or_last (z ∷ zs) x y zero at = inl at
old_or_last (z ∷ zs) x y (suc i) at = one_later zs z x y i (old_or_last zs x y i at)
