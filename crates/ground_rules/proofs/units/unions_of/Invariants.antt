use Rattle.std.proofs.Common.{◌≡◌, map}
use Rattle.std.specs.List.{range_with_len}
use Rattle.ground_rules.specs.Clauses.{clause_of}
use Rattle.ground_rules.specs.Atoms.{plain_expr}
use Rattle.ground_rules.specs.Grounded.{union_for}
use Rattle.ground_rules.specs.Origins.{instance_at}
use Rattle.ground_rules.proofs.units.unions_of.Given as goal

abbrev pub invariant-loop-value : goal.invariant-loop-value
invariant-loop-value l = map plain_expr l.exprs.items
    ≡ map (union_for (map (instance_at (map clause_of l.clauses)) l.mine))
    (range_with_len 0 l.value)
