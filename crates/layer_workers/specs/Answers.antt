-- Public contracts speak by this: what a crew answers, and what its work costs.
use Rattle.std.specs.Prelude.{◌≡◌, ℕ, zero, suc, ◌+◌, List, length, slice_get, Some}

-- the costs of the numbers below n, added up
abbrev pub cost_below : (ℕ → ℕ) → ℕ → ℕ
cost_below cost zero = 0
cost_below cost (suc n) = cost_below cost n + cost n

-- n items, and each is an answer for the number at whose place it stands
pub record AreAnswers {X : Type 0} (answers : ℕ → X → Type 0) (n : ℕ) (items : List X)
    : Type 0 where
  pub long : length items ≡ n
  pub each : (place : ℕ) (item : X) → slice_get items place ≡ Some item → answers place item
