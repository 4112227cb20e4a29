-- No contract speaks by this: evidence, by computation alone, that the definitions say what is
-- meant.
use Rattle.std.specs.Prelude.{◌≡◌, ℕ, [], ◌∷◌, refl}
use Rattle.layer_workers.specs.Answers.{cost_below, AreAnswers}

-- each number costs as many steps as it says
costs_of_five : cost_below (λ number. number) 5 ≡ 10
costs_of_five = refl

costs_of_none : cost_below (λ number. number) 0 ≡ 0
costs_of_none = refl

-- were the first of two answers repeated, it would be one for the second number too
first_repeated : AreAnswers (λ number item. item ≡ number) 2 (0 ∷ 0 ∷ []) → ◌≡◌ {A = ℕ} 0 1
first_repeated all = all.each 1 0 refl

-- were the last of two answers left out, one would be two
last_left_out : AreAnswers (λ number item. item ≡ number) 2 (0 ∷ []) → ◌≡◌ {A = ℕ} 1 2
last_left_out all = all.long
