-- The field at a place and the fields from there on.
use Rattle.std.proofs.Common.{◌≡◌, ◌∷◌, [], ℕ, zero, suc, ◌+◌, List, drop, refl, add-one, Some}
use Rattle.std.proofs.Common.{None}
use Rattle.csv.specs.Records.{field_at}

pub no_field_left : (i : ℕ) (xs : List (List ℕ)) → field_at xs i ≡ None → drop i xs ≡ []
unfolding field_at
no_field_left zero [] e = refl
no_field_left (suc i) [] e = refl
no_field_left zero (x ∷ xs) e = cc
no_field_left (suc i) (x ∷ xs) e = no_field_left i xs e

left_from : (i : ℕ) (xs : List (List ℕ)) (x : List ℕ) → field_at xs i ≡ Some x
    → drop i xs ≡ x ∷ drop (suc i) xs
unfolding field_at
left_from zero [] x e = cc
left_from (suc i) [] x e = cc
left_from zero (y ∷ ys) x e = cc
left_from (suc i) (y ∷ ys) x e = left_from i ys x e

pub field_is_left : (i : ℕ) (xs : List (List ℕ)) (x : List ℕ) → field_at xs i ≡ Some x
    → drop i xs ≡ x ∷ drop (i + 1) xs
field_is_left i xs x e = rw (add-one) (left_from i xs x e)
