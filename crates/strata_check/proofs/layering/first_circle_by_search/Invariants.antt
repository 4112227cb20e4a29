use Rattle.std.proofs.Common.{ℕ, ◌<◌}
use Rattle.strata_check.specs.Rows.{Leads}
use Rattle.strata_check.proofs.layering.first_circle_by_search.Given as goal

abbrev pub invariant-loop-place : goal.invariant-loop-place
invariant-loop-place l = (earlier : ℕ) → earlier < l.place → Leads l.rows earlier earlier → ⊥
