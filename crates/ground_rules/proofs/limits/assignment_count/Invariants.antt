use Rattle.std.proofs.Common.{◌≡◌, take, map}
use Rattle.ground_names.specs.Counted.{capped}
use Rattle.ground_rules.specs.Limits.{assignment_count}
use Rattle.ground_rules.specs.Clauses.{clause_of}
use Rattle.ground_rules.proofs.limits.assignment_count.Given as goal

abbrev pub invariant-loop-clause : goal.invariant-loop-clause
invariant-loop-clause l = l.count ≡ capped
    (assignment_count (map clause_of (take l.clause-index l.clauses)))
