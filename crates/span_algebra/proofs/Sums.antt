-- Sums over lists.
use Rattle.std.proofs.Common.{◌≡◌, ℕ, ◌+◌, List, [], ◌∷◌, All, refl, sym, ◌∙◌, ap₂}
use Rattle.std.specs.List.{sum_by}
use Rattle.std.proofs.lemmas.List.Elements.{All-head, All-tail}
use Rattle.std.proofs.lemmas.List.Sums.{sum_by-cons}

-- what is the same of each item is the same of all
pub sum_same : {X : Type 0} (f g : X → ℕ) (xs : List X) → All (λ x. f x ≡ g x) xs
    → sum_by f xs ≡ sum_by g xs
sum_same f g [] same = refl
sum_same f g (x ∷ xs) same =
    sum_by-cons f x xs
    ∙ ap₂ (λ (a b : ℕ). a + b) (All-head (λ y. f y ≡ g y) x xs same)
    (sum_same f g xs (All-tail (λ y. f y ≡ g y) x xs same))
    ∙ sym (sum_by-cons g x xs)

pub sum_none : {X : Type 0} (f : X → ℕ) (xs : List X) → All (λ x. f x ≡ 0) xs → sum_by f xs ≡ 0
sum_none f [] none = refl
sum_none f (x ∷ xs) none =
    sum_by-cons f x xs
    ∙ ap₂ (λ (a b : ℕ). a + b) (All-head (λ y. f y ≡ 0) x xs none)
    (sum_none f xs (All-tail (λ y. f y ≡ 0) x xs none))
