use Rattle.std.proofs.Common.{map, take}
use Rattle.ground_rules.specs.Clauses.{clause_of}
use Rattle.ground_rules.proofs.CountedClauses.{AreTotals}
use Rattle.ground_rules.proofs.limits.totals_of.Given as goal

abbrev pub invariant-loop-clause : goal.invariant-loop-clause
invariant-loop-clause l = AreTotals (map clause_of (take l.clause-index l.clauses)) l.totals.rules
    l.totals.conditions
