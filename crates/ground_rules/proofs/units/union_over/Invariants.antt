use Rattle.std.proofs.Common.{◌≡◌, map, take, filter_map}
use Rattle.ground_rules.specs.Clauses.{clause_of}
use Rattle.ground_rules.specs.Atoms.{plain_expr}
use Rattle.ground_rules.specs.Grounded.{expression_by}
use Rattle.ground_rules.specs.Origins.{instance_at}
use Rattle.ground_rules.proofs.units.union_over.Given as goal

abbrev pub invariant-loop-origin : goal.invariant-loop-origin
invariant-loop-origin l = map plain_expr l.members.items
    ≡ filter_map (λ i. expression_by i i.clause.form) (map (instance_at (map clause_of l.clauses))
    (take l.origin-index l.mine))
