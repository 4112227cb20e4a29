use Rattle.std.proofs.Common.{◌≡◌, map, take}
use Rattle.rule_forms.specs.Forms.{plain_tree}
use Rattle.ground_rules.specs.LentInstances.{instance_of}
use Rattle.ground_rules.proofs.StatedExpressions.{stated_of}
use Rattle.ground_rules.proofs.instance.Instance.+stated.Given as goal

abbrev pub invariant-stated_trees-loop-tree : goal.invariant-stated_trees-loop-tree
invariant-stated_trees-loop-tree l = map plain_tree l.stated.items
    ≡ map (stated_of (instance_of l.self)) (take l.tree-index l.trees)
