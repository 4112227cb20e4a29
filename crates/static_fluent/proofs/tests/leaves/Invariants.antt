use Rattle.std.proofs.Common.{◌≡◌, true}
use Rattle.std.specs.List.{list_all}
use Rattle.static_fluent.specs.Constructs.{has_members, has_rows}
use Rattle.static_fluent.proofs.tests.leaves.Given as goal

abbrev pub invariant-loop-leaf : goal.invariant-loop-leaf
invariant-loop-leaf l = (list_all (has_rows 3) l.exprs.items ≡ true)
    × (list_all has_members l.exprs.items ≡ true)
