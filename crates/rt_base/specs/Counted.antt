-- Public contracts speak by this: what they see of a counter of steps.
use Rattle.std.specs.Prelude.{ℕ}

-- the steps that are counted, and how many parts are out
pub record Counted : Type 0 where
  pub count : ℕ
  pub out : ℕ
