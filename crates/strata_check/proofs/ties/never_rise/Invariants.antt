use Rattle.std.proofs.Common.{ℕ, suc, ◌<◌}
use Rattle.strata_check.specs.Rows.{row_at}
use Rattle.strata_check.specs.Ranks.{rank_at, AreUnder}
use Rattle.strata_check.proofs.ties.never_rise.Given as goal

abbrev pub invariant-loop-place : goal.invariant-loop-place
invariant-loop-place l = (earlier : ℕ) → earlier < l.place
    → AreUnder l.ranks (row_at l.rows earlier) (suc (rank_at l.ranks earlier))
