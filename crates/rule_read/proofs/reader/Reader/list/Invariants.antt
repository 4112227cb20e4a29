use Rattle.std.proofs.Common.{◌≡◌, ◌-◌}
use Rattle.rule_read.specs.Lexed.{tokens}
use Rattle.rule_read.specs.Reading.{list_at, with_front}
use Rattle.rule_read.proofs.reader.Reader.list.Given as goal

abbrev pub invariant-loop-turn : goal.invariant-loop-turn
invariant-loop-turn g l = with_front l.members.items (list_at g.M.Member.at (l.count - l.turn)
    (tokens l.self.rest.now)) ≡ list_at g.M.Member.at l.count (tokens l.initial.self.rest.now)
