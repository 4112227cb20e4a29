use Rattle.std.proofs.Common.{◌≡◌, ◌++◌, map, take}
use Rattle.rule_read.specs.Lexed.{tokens}
use Rattle.rule_read.specs.FormTokens.{commas}
use Rattle.rule_read.proofs.printer.put_members.Given as goal

abbrev pub invariant-loop-turn : goal.invariant-loop-turn
invariant-loop-turn g l = tokens l.out.items ≡ tokens l.initial.out.items ++ commas
    (map g.T.Printed.spelled (take l.turn l.members))
