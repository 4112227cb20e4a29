use Rattle.std.proofs.Common.{◌≡◌, take}
use Rattle.point_rule.specs.Known.{known}
use Rattle.delay_revise.specs.Working.{triggers_of}
use Rattle.delay_revise.proofs.gather.are_quiet.Given as goal

abbrev pub invariant-loop-rule : goal.invariant-loop-rule
invariant-loop-rule l = triggers_of (known l.cache.rows l.store) (take l.rule-index l.rules) l.w l.q
    ≡ 0
