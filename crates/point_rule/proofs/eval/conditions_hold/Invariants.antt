use Rattle.std.proofs.Common.{◌≡◌, true, take}
use Rattle.std.specs.List.{list_all}
use Rattle.ground_types.specs.Truth.{condition_holds}
use Rattle.point_rule.specs.Known.{known}
use Rattle.point_rule.proofs.eval.conditions_hold.Given as goal

abbrev pub invariant-loop-cond : goal.invariant-loop-cond
invariant-loop-cond l = list_all (λ cond. condition_holds (known l.cache.rows l.store) cond l.at)
    (take l.cond-index l.conds) ≡ true
