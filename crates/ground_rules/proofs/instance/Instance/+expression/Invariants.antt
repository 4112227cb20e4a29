use Rattle.std.proofs.Common.{◌≡◌, map, take}
use Rattle.ground_rules.specs.Atoms.{plain_expr}
use Rattle.ground_rules.specs.LentInstances.{instance_of}
use Rattle.ground_rules.proofs.ExpressionMembers.{ground_tree}
use Rattle.ground_rules.proofs.instance.Instance.+expression.Given as goal

abbrev pub invariant-expressions-loop-tree : goal.invariant-expressions-loop-tree
invariant-expressions-loop-tree l = map plain_expr l.exprs.items
    ≡ map (ground_tree (instance_of l.self)) (take l.tree-index l.trees)
