-- A list of publications to which the next one is put.
use Rattle.std.proofs.Common.{◌≡◌, ℕ, zero, suc, List, [], ◌∷◌, ◌++◌, length, slice_get, Some}
use Rattle.std.proofs.Common.{◌⊎◌, inl, inr, sym, ◌∙◌, ap, refl, arith}
use Rattle.std.proofs.lemmas.Option.{same_Some}
use Rattle.query_ask.specs.Right.{Parts}
use Rattle.publish_shelf.specs.Listed.{IsListed, MayFollow}

-- what is found there is found in the list, or it is the one that was put
pub found_in : {X : Type 0} (list : List X) (next found : X) (k : ℕ)
    → slice_get (list ++ next ∷ []) k ≡ Some found →
    (slice_get list k ≡ Some found) ⊎ ((k ≡ length list) × (found ≡ next))
found_in [] next found zero at = inr (refl, sym (same_Some next found at))
found_in [] next found (suc k) at = absurd cc
found_in (x ∷ rest) next found zero at = inl at
found_in (x ∷ rest) next found (suc k) at = later (found_in rest next found k at) where
  later : (slice_get rest k ≡ Some found) ⊎ ((k ≡ length rest) × (found ≡ next)) →
      (slice_get (x ∷ rest) (suc k) ≡ Some found)
      ⊎ ((suc k ≡ length (x ∷ rest)) × (found ≡ next))
  later (inl there) = inl there
  later (inr (last, same)) = inr (omega (arith, last), same)

module _ (list : List Parts) (parts : Parts) (is : IsListed list) (next : MayFollow list parts)
  where
    abbrev Found : ℕ → Parts → Type 0
    Found k found = (slice_get list k ≡ Some found) ⊎ ((k ≡ length list) × (found ≡ parts))

    same_program : (k : ℕ) (found : Parts) → Found k found → found.program ≡ parts.program
    same_program k found (inl there) = next.program k found there
    same_program k found (inr (last, same)) = ap (λ (p : Parts). p.program) same

    own_number : (k : ℕ) (found : Parts) → Found k found → found.number ≡ k
    own_number k found (inl there) = (is k found there).numbers k found there
    own_number k found (inr (last, same)) =
        ap (λ (p : Parts). p.number) same ∙ next.number ∙ sym last

    pub is_listed : IsListed (list ++ parts ∷ [])
    is_listed j one at = record {
      numbers = λ k found there. own_number k found (found_in list parts found k there);
      programs = λ k found there. same_program k found (found_in list parts found k there)
          ∙ sym (same_program j one (found_in list parts one j at));
    }
