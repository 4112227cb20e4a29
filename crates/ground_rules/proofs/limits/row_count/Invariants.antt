use Rattle.std.proofs.Common.{◌≡◌, take}
use Rattle.ground_names.specs.Counted.{capped}
use Rattle.ground_rules.specs.Limits.{row_count}
use Rattle.ground_rules.proofs.limits.row_count.Given as goal

abbrev pub invariant-loop-name : goal.invariant-loop-name
invariant-loop-name l = l.count ≡ capped (row_count l.domains (take l.name-index l.names))
