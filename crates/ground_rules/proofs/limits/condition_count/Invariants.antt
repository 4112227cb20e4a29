use Rattle.std.proofs.Common.{◌≡◌, take, length, filter}
use Rattle.ground_names.specs.Counted.{capped}
use Rattle.ground_rules.specs.Limits.{is_condition}
use Rattle.ground_rules.proofs.limits.condition_count.Given as goal

abbrev pub invariant-loop-body : goal.invariant-loop-body
invariant-loop-body l = l.count ≡ capped (length (filter is_condition (take l.body-index l.bodies)))
