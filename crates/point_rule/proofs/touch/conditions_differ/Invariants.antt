use Rattle.std.proofs.Common.{◌≡◌, false, take}
use Rattle.std.specs.List.{list_any}
use Rattle.ground_types.specs.Truth.{condition_holds}
use Rattle.ground_types.specs.Touched.{differs}
use Rattle.point_rule.specs.Known.{known, known_before}
use Rattle.point_rule.proofs.touch.conditions_differ.Given as goal

abbrev pub invariant-loop-cond : goal.invariant-loop-cond
invariant-loop-cond l =
    list_any (λ cond. differs (condition_holds (known_before l.cache l.store) cond l.at)
    (condition_holds (known l.cache.rows l.store) cond l.at))
    (take l.cond-index l.conds) ≡ false
