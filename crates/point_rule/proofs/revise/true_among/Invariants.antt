use Rattle.std.proofs.Common.{◌≡◌, ◌+◌, filter, take}
use Rattle.ground_types.specs.Truth.{body_holds}
use Rattle.point_rule.specs.Known.{known}
use Rattle.point_rule.proofs.revise.true_among.Given as goal

abbrev pub invariant-loop-point : goal.invariant-loop-point
invariant-loop-point g l = record {
  found : l.found.items ≡ filter (body_holds (known l.cache.rows l.store) l.rule)
      (take l.point-index l.at);
  steps : l.steps ≡ record { count = l.fn.steps.count + l.point-index; out = l.fn.steps.out };
}
