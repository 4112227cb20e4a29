use Rattle.std.proofs.Common.{◌≡◌, false, replicate}
use Rattle.strata_check.proofs.reach.none_seen.Given as goal

abbrev pub invariant-loop-turn : goal.invariant-loop-turn
invariant-loop-turn l = l.seen.items ≡ replicate l._turn false
