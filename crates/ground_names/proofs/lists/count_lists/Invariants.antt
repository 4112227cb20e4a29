use Rattle.std.proofs.Common.{◌≡◌, take}
use Rattle.ground_names.specs.Counted.{capped}
use Rattle.ground_names.proofs.Ordered.{product}
use Rattle.ground_names.proofs.lists.count_lists.Given as goal

abbrev pub invariant-loop-size : goal.invariant-loop-size
invariant-loop-size l = l.count ≡ capped (product (take l.size-index l.sizes))
