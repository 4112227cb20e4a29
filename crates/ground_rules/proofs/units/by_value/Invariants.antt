use Rattle.std.proofs.Common.{◌≡◌, map, take}
use Rattle.ground_rules.specs.Clauses.{clause_of}
use Rattle.ground_rules.specs.Atoms.{head_value}
use Rattle.ground_rules.specs.Origins.{gathered, instance_at}
use Rattle.ground_rules.proofs.units.by_value.Given as goal

abbrev pub invariant-loop-origin : goal.invariant-loop-origin
invariant-loop-origin l = l.origins ≡ gathered (λ origin.
    head_value (instance_at (map clause_of l.clauses) origin)) l.values
    (take l.origin-index l.mine)
