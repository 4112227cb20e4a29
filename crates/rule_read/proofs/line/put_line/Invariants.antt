use Rattle.std.proofs.Common.{◌≡◌, ◌++◌, length}
use Rattle.rule_read.specs.Canonical.{line_of}
use Rattle.rule_read.specs.Lexed.{tokens}
use Rattle.rule_read.proofs.line.put_line.Given as goal

abbrev pub invariant-loop-rest : goal.invariant-loop-rest
invariant-loop-rest l = l.out.items ++ line_of (tokens l.rest) ≡ l.initial.out.items ++ line_of
    (tokens l.fn.line)

abbrev pub decreases-loop-rest : goal.decreases-loop-rest
decreases-loop-rest l = length l.rest
