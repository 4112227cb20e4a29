use Rattle.std.proofs.Common.{◌≡◌, filter, take, Some}
use Rattle.point_rule.specs.Known.{is_open}
use Rattle.point_rule.proofs.touch.open_among.Given as goal

abbrev pub invariant-loop-point : goal.invariant-loop-point
invariant-loop-point l = l.found.items ≡ filter (is_open (Some l.before) l.cache l.store l.rule)
    (take l.point-index l.at)
