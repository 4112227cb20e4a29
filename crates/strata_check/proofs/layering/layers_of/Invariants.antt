use Rattle.std.proofs.Common.{◌≡◌, map, take, Some}
use Rattle.strata_check.specs.Walks.{layer_by_mark}
use Rattle.strata_check.proofs.layering.layers_of.Given as goal

abbrev pub invariant-loop-mark : goal.invariant-loop-mark
invariant-loop-mark l = l.list.items ≡ map (λ mark. layer_by_mark (Some mark))
    (take l.mark-index l.marks)
