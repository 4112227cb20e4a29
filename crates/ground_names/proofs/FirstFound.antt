-- The first item that passes a test.
use Rattle.std.proofs.Common.{◌≡◌, ◌⊎◌, inl, inr, Bool, true, false, cond, ◌&&◌, List, [], ◌∷◌}
use Rattle.std.proofs.Common.{find, Option, Some, refl, subst}
use Rattle.std.specs.List.{list_all}
use Rattle.std.proofs.lemmas.Bool.{and_parts}
use Rattle.std.proofs.lemmas.Option.{none-some, same_Some}

-- it passes each test that all items pass
module _ {X : Type 0} (p q : X → Bool) where
  found_by : (b : Bool) (x y : X) (rest : Option X) → cond b (Some x) rest ≡ Some y → (x ≡ y)
      ⊎ (rest ≡ Some y)
  found_by true x y rest e = inl (same_Some x y e)
  found_by false x y rest e = inr e

  passes_by : (x y : X) (xs : List X) → (x ≡ y) ⊎ (find p xs ≡ Some y)
      → (find p xs ≡ Some y → list_all q xs ≡ true → q y ≡ true) → (q x && list_all q xs) ≡ true
      → q y ≡ true
  passes_by x y xs (inl e) rest all = subst (λ z. q z ≡ true) e (and_parts (q x) (list_all q xs)
      all).0
  passes_by x y xs (inr e) rest all = rest e (and_parts (q x) (list_all q xs) all).1

  pub found_passes : (xs : List X) (y : X) → find p xs ≡ Some y → list_all q xs ≡ true → q y ≡ true
  found_passes [] y e all = absurd (none-some y e)
  found_passes (x ∷ xs) y e all = passes_by x y xs (found_by (p x) x y (find p xs) e)
      (found_passes xs y) all

-- it passes the test
pub found_is_one : {A : Type 0} (p : A → Bool) (xs : List A) (y : A) → find p xs ≡ Some y
    → p y ≡ true
found_is_one p [] y e = absurd (none-some y e)
found_is_one p (x ∷ xs) y e = by (p x) refl (found_is_one p xs y) e
  where
    by : (b : Bool) → p x ≡ b → (find p xs ≡ Some y → p y ≡ true) → cond b (Some x) (find p xs)
        ≡ Some y → p y ≡ true
    by true one rest e = subst (λ z. p z ≡ true) (same_Some x y e) one
    by false none rest e = rest e
