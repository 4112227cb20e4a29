use Rattle.std.proofs.Common.{◌≡◌, None, take}
use Rattle.std.specs.Prelude.{replicate}
use Rattle.delay_revise.proofs.publish.clear_counts.Given as goal

abbrev pub invariant-loop-count : goal.invariant-loop-count
invariant-loop-count l = take l.count-index l.counts ≡ replicate l.count-index None
