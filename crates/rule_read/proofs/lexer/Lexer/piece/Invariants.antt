use Rattle.std.proofs.Common.{◌≡◌, ◌≤◌, length}
use Rattle.rule_read.specs.Tokens.{pieces}
use Rattle.rule_read.proofs.lexer.Lexer.piece.Given as goal

abbrev pub invariant-loop-found : goal.invariant-loop-found
invariant-loop-found l = record {
  same : pieces l.initial.self.line l.initial.self.rest.now ≡ pieces l.self.line l.self.rest.now;
  shorter : length l.self.rest.now ≤ length l.initial.self.rest.now;
}

abbrev pub decreases-loop-found : goal.decreases-loop-found
decreases-loop-found l = length l.self.rest.now
