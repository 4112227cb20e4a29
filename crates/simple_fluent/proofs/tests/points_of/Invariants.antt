use Rattle.std.proofs.Common.{◌≡◌, map, take}
use Rattle.simple_fluent.proofs.tests.points_of.Given as goal

abbrev pub invariant-loop-list : goal.invariant-loop-list
invariant-loop-list l = l.all.items ≡ map (λ list. list.now) (take l.list-index l.lists)
