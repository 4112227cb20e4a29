use Rattle.std.proofs.Common.{◌≡◌, [], replicate}
use Rattle.strata_check.proofs.rows.empty_rows.Given as goal

abbrev pub invariant-loop-turn : goal.invariant-loop-turn
invariant-loop-turn l = l.rows.items ≡ replicate l._turn []
