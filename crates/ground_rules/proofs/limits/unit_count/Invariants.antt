use Rattle.std.proofs.Common.{◌≡◌, take}
use Rattle.ground_names.specs.Counted.{capped}
use Rattle.ground_rules.specs.Limits.{unit_count}
use Rattle.ground_rules.proofs.limits.unit_count.Given as goal

abbrev pub invariant-loop-name : goal.invariant-loop-name
invariant-loop-name l = l.count ≡ capped (unit_count l.domains (take l.name-index l.names))
