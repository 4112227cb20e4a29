use Rattle.std.proofs.Common.{◌≡◌, take}
use Rattle.ground_names.specs.Counted.{capped}
use Rattle.ground_rules.specs.Grounded.{event_count}
use Rattle.ground_rules.proofs.limits.event_count.Given as goal

abbrev pub invariant-loop-name : goal.invariant-loop-name
invariant-loop-name l = l.count ≡ capped (event_count l.domains (take l.name-index l.names))
