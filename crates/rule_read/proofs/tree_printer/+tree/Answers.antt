use Rattle.std.proofs.Common.{◌++◌, map, ap, sym, ◌∙◌}
use Rattle.rule_read.specs.Lexed.{tokens}
use Rattle.rule_read.specs.FormTokens.{in_brackets}
use Rattle.rule_read.specs.Printed.{tree_tokens}
use Rattle.rule_read.proofs.Put.{next_member}
use Rattle.rule_read.proofs.TreeTokens.{put_complement}
use Rattle.rule_read.proofs.tree_printer.+tree.Goals as goal

pub put_trees-loop-turn-preserved : goal.put_trees-loop-turn-preserved
put_trees-loop-turn-preserved t c =
    next_member tree_tokens (tokens c.args.out.now.items) (tokens c.loop-turn.out.items)
    (tokens c.put_comma.new.out.items) (tokens c.put_tree.new.out.items) c.args.members.now
    c.loop-turn.turn c.index-members-turn.result
    c.loop-turn-test.true (rw (← c.index-members-turn.is) c.in_ok-put_tree.ensures)
    c.in_ok-put_comma.ensures c.loop-turn.invariant

pub put_tree-returns-in_ok-put_mark-in-Complement-3 :
    goal.put_tree-returns-in_ok-put_mark-in-Complement-3
put_tree-returns-in_ok-put_mark-in-Complement-3 t c =
    put_complement c.in-Complement.first c.in-Complement.others (tokens c.args.out.now.items)
    (tokens c.put_key.new.out.items) (tokens c.put_mark.new.out.items)
    (tokens c.put_tree.new.out.items) (tokens c.put_mark-in-Complement.new.out.items)
    (tokens c.put_tree_row.new.out.items) (tokens c.put_mark-in-Complement-2.new.out.items)
    c.in_ok-put_key-in-Complement.ensures c.in_ok-put_mark-in-Complement.ensures
    (c.in_ok-put_tree-in-Complement.ensures ∙ ap (λ tree. tokens c.put_mark.new.out.items
    ++ tree_tokens tree) c.deref.ensures)
    c.in_ok-put_mark-in-Complement-2.ensures
    (c.in_ok-put_tree_row-in-Complement.ensures
    ∙ ap (λ members. tokens c.put_mark-in-Complement.new.out.items ++ in_brackets
    (map tree_tokens members)) c.as_slice-in-Complement.ensures.value)
    c.in_ok-put_mark-in-Complement-3.ensures
    ∙ ap (λ tree. tokens c.args.out.now.items ++ tree_tokens tree) (sym c.in-Complement.is)
