use Rattle.std.proofs.Common.{◌≡◌, map, take}
use Rattle.rule_forms.specs.Forms.{plain_tree}
use Rattle.rule_forms.proofs.copy.+copy_tree.Given as goal

abbrev pub invariant-copy_trees-loop-tree : goal.invariant-copy_trees-loop-tree
invariant-copy_trees-loop-tree l = map plain_tree l.copied.items ≡ map plain_tree
    (take l.tree-index l.members)
