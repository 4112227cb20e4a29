use Rattle.std.proofs.Common.{◌≡◌, ◌++◌, flat_map, take}
use Rattle.decl_known.specs.Gathered.{mentions_of}
use Rattle.decl_known.proofs.Gathering.{tree_leaves}
use Rattle.decl_known.proofs.mentions.+leaves.Given as goal

abbrev pub invariant-add_all_leaves-loop-tree : goal.invariant-add_all_leaves-loop-tree
invariant-add_all_leaves-loop-tree l =
    mentions_of l.into.items ≡ mentions_of l.initial.into.items ++ flat_map tree_leaves
    (take l.tree-index l.trees)
