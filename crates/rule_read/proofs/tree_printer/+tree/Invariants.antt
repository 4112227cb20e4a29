use Rattle.std.proofs.Common.{◌≡◌, ◌++◌, take, map}
use Rattle.rule_read.specs.Lexed.{tokens}
use Rattle.rule_read.specs.FormTokens.{commas}
use Rattle.rule_read.specs.Printed.{tree_tokens}
use Rattle.rule_read.proofs.tree_printer.+tree.Given as goal

abbrev pub invariant-put_trees-loop-turn : goal.invariant-put_trees-loop-turn
invariant-put_trees-loop-turn l = tokens l.out.items ≡ tokens l.initial.out.items ++ commas
    (map tree_tokens (take l.turn l.members))
