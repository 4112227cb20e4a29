use Rattle.std.proofs.Common.{◌≡◌, take}
use Rattle.std.specs.Prelude.{sum_by}
use Rattle.delay_revise.specs.Counting.{count_of}
use Rattle.delay_revise.proofs.totals.total_of_layer.Given as goal

abbrev pub invariant-loop-unit : goal.invariant-loop-unit
invariant-loop-unit l = l.sum ≡ sum_by (count_of l.counts) (take l.unit-index l.layer)
