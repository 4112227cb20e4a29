use Rattle.std.proofs.Common.{◌≡◌, map, take, filter_map}
use Rattle.ground_rules.specs.Clauses.{clause_of}
use Rattle.ground_rules.specs.LentInstances.{rule_by}
use Rattle.ground_rules.specs.Origins.{instance_at}
use Rattle.ground_rules.proofs.units.rules_of.Given as goal

abbrev pub invariant-loop-origin : goal.invariant-loop-origin
invariant-loop-origin l = l.rules.items ≡ filter_map (λ i. rule_by l.part i i.clause.form)
    (map (instance_at (map clause_of l.clauses)) (take l.origin-index l.mine))
