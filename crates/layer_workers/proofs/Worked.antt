-- Answers and costs, one number further.
use Rattle.std.proofs.Common.{◌≡◌, ◌⊎◌, inl, inr, refl, ap, subst, sym, ◌∙◌, arith}
use Rattle.std.proofs.Common.{ℕ, zero, suc, ◌+◌, ◌<◌, ◌≤◌, List, [], ◌∷◌, ◌++◌, length, slice_get}
use Rattle.std.proofs.Common.{Some, length-append}
use Rattle.layer_workers.specs.Answers.{cost_below, AreAnswers}

pub cost_within : (cost : ℕ → ℕ) (m n : ℕ) → m < n
    → cost_below cost m + cost m ≤ cost_below cost n
cost_within cost m zero h = absurd (omega arith)
cost_within cost m (suc n) h = grind (arith, cost_within cost m n)

-- an item of a list with one more is an item of the list, or the one more
at_end : {X : Type 0} (xs : List X) (x : X) (place : ℕ) (item : X)
    → slice_get (xs ++ x ∷ []) place ≡ Some item
    → (slice_get xs place ≡ Some item) ⊎ ((place ≡ length xs) × (x ≡ item))
at_end [] x zero item is = inr (refl, cc)
at_end [] x (suc place) item is = absurd (cc)
at_end (y ∷ xs) x zero item is = inl is
at_end (y ∷ xs) x (suc place) item is = grind (arith, at_end xs x place item is)

pub one_more_answer : {X : Type 0} (answers : ℕ → X → Type 0) (n : ℕ) (xs more : List X) (x : X)
    → AreAnswers answers n xs → answers n x → more ≡ xs ++ x ∷ []
    → AreAnswers answers (n + 1) more
one_more_answer answers n xs more x all last is = rw is (record {
  long = omega (arith, all.long, length-append xs (x ∷ []));
  each = λ place item at. elim (at_end xs x place item at) [
    | inl before ↦ all.each place item before
    | inr (here, same) ↦
        subst (answers place) same (subst (λ k. answers k x) (sym (here ∙ all.long)) last)
  ];
})

-- the steps once the next number is worked
pub one_more_cost : (cost : ℕ → ℕ) (n before now after : ℕ) → now ≡ before + cost_below cost n
    → after ≡ now + cost n → after ≡ before + cost_below cost (n + 1)
one_more_cost cost n before now after so_far last =
    let next : n + 1 ≡ suc n = omega arith in
    omega (arith, ap (cost_below cost) next)
