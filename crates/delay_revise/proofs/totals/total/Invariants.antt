use Rattle.std.proofs.Common.{◌≡◌, ℕ, List, take}
use Rattle.std.specs.Prelude.{sum_by}
use Rattle.delay_revise.specs.Counting.{count_of}
use Rattle.delay_revise.proofs.totals.total.Given as goal

abbrev pub invariant-loop-layer : goal.invariant-loop-layer
invariant-loop-layer l = l.sum
    ≡ sum_by (λ (layer : List ℕ). sum_by (count_of l.counts) layer)
    (take l.layer-index l.layer-items)
