use Rattle.std.proofs.Common.{◌≡◌, filter_map, take}
use Rattle.ground_rules.specs.Atoms.{ground_condition}
use Rattle.ground_rules.specs.LentInstances.{instance_of}
use Rattle.ground_rules.proofs.instance.Instance.conditions.Given as goal

abbrev pub invariant-loop-body : goal.invariant-loop-body
invariant-loop-body l = l.conds.items ≡ filter_map (ground_condition (instance_of l.self))
    (take l.body-index l.bodies)
