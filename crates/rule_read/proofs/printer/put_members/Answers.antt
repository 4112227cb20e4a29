use Rattle.rule_read.specs.Lexed.{tokens}
use Rattle.rule_read.proofs.Put.{next_member}
use Rattle.rule_read.proofs.printer.put_members.Goals as goal

pub loop-turn-preserved : goal.loop-turn-preserved
loop-turn-preserved g c =
    next_member g.T.Printed.spelled (tokens c.args.out.now.items) (tokens c.loop-turn.out.items)
    (tokens c.put_comma.new.out.items) (tokens c.put.new.out.items) c.args.members.now
    c.loop-turn.turn c.index-members-turn.result
    c.loop-turn-test.true (rw (← c.index-members-turn.is) c.in_ok-put.ensures)
    c.in_ok-put_comma.ensures c.loop-turn.invariant
