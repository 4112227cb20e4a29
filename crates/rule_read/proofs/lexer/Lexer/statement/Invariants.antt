use Rattle.std.proofs.Common.{◌≡◌, ◌≤◌, length}
use Rattle.rule_read.specs.Tokens.{pieces}
use Rattle.rule_read.specs.Lexed.{tokens}
use Rattle.rule_read.specs.Sentences.{sentences, lead, first_bad}
use Rattle.rule_read.proofs.lexer.Lexer.statement.Given as goal

abbrev pub invariant-loop-token : goal.invariant-loop-token
invariant-loop-token l = record {
  same : sentences (pieces l.initial.self.line l.initial.self.rest.now)
      ≡ lead l.line (tokens l.found.items) (sentences (pieces l.self.line l.self.rest.now));
  fine : first_bad (pieces l.initial.self.line l.initial.self.rest.now)
      ≡ first_bad (pieces l.self.line l.self.rest.now);
  shorter : length l.self.rest.now ≤ length l.initial.self.rest.now;
}

abbrev pub decreases-loop-token : goal.decreases-loop-token
decreases-loop-token l = length l.self.rest.now
