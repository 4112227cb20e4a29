use Rattle.std.proofs.Common.{◌≡◌, ◌++◌, map, length}
use Rattle.std.specs.Vec.Iter.{into_iter_items}
use Rattle.ground_rules.proofs.buckets.lists_of.Given as goal

abbrev pub invariant-loop-vector : goal.invariant-loop-vector
invariant-loop-vector g l = l.lists.items ++ map (λ vector. vector.items)
    (into_iter_items l.vectors) ≡ map (λ vector. vector.items) (into_iter_items l.initial.vectors)

abbrev pub decreases-loop-vector : goal.decreases-loop-vector
decreases-loop-vector g l = length (into_iter_items l.vectors)
