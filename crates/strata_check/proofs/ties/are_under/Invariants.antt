use Rattle.std.proofs.Common.{◌≡◌, ◌<◌, ℕ, Some, slice_get}
use Rattle.strata_check.specs.Ranks.{rank_at}
use Rattle.strata_check.proofs.ties.are_under.Given as goal

abbrev pub invariant-loop-place : goal.invariant-loop-place
invariant-loop-place l = (i u : ℕ) → i < l.place-index → slice_get l.row i ≡ Some u
    → rank_at l.ranks u < l.bound
