-- Constructs one inside another.
use Rattle.std.proofs.Common.{◌≡◌, ℕ, zero, suc, ◌-◌, ◌<◌, List, refl, arith}
use Rattle.rule_read.specs.Tokens.{Token}
use Rattle.rule_read.specs.Reading.{expression_at, construct_at}

pub one_more_deep : (d : ℕ) (ts : List Token) → 0 < d → expression_at d ts
    ≡ construct_at (expression_at (d - 1)) ts
unfolding expression_at
one_more_deep zero ts lt = absurd (omega arith)
one_more_deep (suc d) ts lt = let e : suc d - 1 ≡ d = omega arith in rw e refl
