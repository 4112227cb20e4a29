-- Inertia, a point at a time.
use Rattle.std.proofs.Common.{◌≡◌, ℕ, suc, ◌+◌, ◌-◌, ◌<◌, List, Option, ◌∙◌, ap, arith}
use Rattle.ground_types.specs.Inertia.{next_value, value_after, value_at}

pub value_opens : (opening : Option ℕ) (initiated terminated : ℕ → List ℕ) (w : ℕ)
    → value_at opening initiated terminated w (w + 1) ≡ opening
value_opens opening initiated terminated w =
    let none : w + 1 - (w + 1) ≡ 0 = omega arith in
    ap (λ (n : ℕ). value_after opening initiated terminated w n) none

pub value_goes_on : (opening : Option ℕ) (initiated terminated : ℕ → List ℕ) (w t : ℕ) → w < t →
    value_at opening initiated terminated w (t + 1)
    ≡ next_value (value_at opening initiated terminated w t) (initiated t) (terminated t)
value_goes_on opening initiated terminated w t above =
    let count : t + 1 - (w + 1) ≡ suc (t - (w + 1)) = omega arith in
    let here : w + suc (t - (w + 1)) ≡ t = omega arith in
    ap (λ (n : ℕ). value_after opening initiated terminated w n) count
    ∙ ap (λ (s : ℕ). next_value (value_at opening initiated terminated w t) (initiated s)
    (terminated s)) here
