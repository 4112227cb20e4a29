use Rattle.ground_rules.specs.Clauses.{clause_of}
use Rattle.ground_rules.proofs.CountedInstances.{AreCounted}
use Rattle.ground_rules.proofs.limits.instances_in.Given as goal

abbrev pub invariant-loop-number : goal.invariant-loop-number
invariant-loop-number l = AreCounted (clause_of l.fn.clause) l.number l.count
