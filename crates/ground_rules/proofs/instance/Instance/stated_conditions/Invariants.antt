use Rattle.std.proofs.Common.{◌≡◌, filter_map, take}
use Rattle.ground_rules.specs.LentInstances.{instance_of}
use Rattle.ground_rules.specs.Stated.{stated_condition}
use Rattle.ground_rules.proofs.instance.Instance.stated_conditions.Given as goal

abbrev pub invariant-loop-body : goal.invariant-loop-body
invariant-loop-body l = l.stated.items ≡ filter_map (stated_condition (instance_of l.self))
    (take l.body-index l.bodies)
