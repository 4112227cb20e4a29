use Rattle.std.proofs.Common.{◌≡◌, ◌+◌, ◌-◌, ◌*◌, map}
use Rattle.rule_read.specs.Lexed.{tokens}
use Rattle.rule_forms.specs.Forms.{plain_tree}
use Rattle.rule_read.specs.Reading.{list_at, expression_at, with_front}
use Rattle.rule_read.proofs.reader.Reader.+tree.Given as goal

abbrev pub decreases-construct : goal.decreases-construct
decreases-construct l = 5 * l.depth + 4

abbrev pub decreases-tree_row : goal.decreases-tree_row
decreases-tree_row l = 5 * l.depth + 2

abbrev pub decreases-tree : goal.decreases-tree
decreases-tree l = 5 * l.depth

abbrev pub decreases-trees : goal.decreases-trees
decreases-trees l = 5 * l.depth + 1

abbrev pub invariant-trees-loop-turn : goal.invariant-trees-loop-turn
invariant-trees-loop-turn l = with_front (map plain_tree l.members.items)
    (list_at (expression_at l.depth) (l.count - l.turn) (tokens l.self.rest.now))
    ≡ list_at (expression_at l.depth) l.count (tokens l.initial.self.rest.now)

abbrev pub decreases-enclosed_trees : goal.decreases-enclosed_trees
decreases-enclosed_trees l = 5 * l.depth + 3

abbrev pub decreases-enclosed_pair : goal.decreases-enclosed_pair
decreases-enclosed_pair l = 5 * l.depth + 3
