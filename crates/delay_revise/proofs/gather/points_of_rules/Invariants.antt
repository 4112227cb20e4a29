use Rattle.std.proofs.Common.{◌≡◌, ◌+◌, ℕ, take}
use Rattle.std.specs.List.{list_any}
use Rattle.ground_types.specs.Members.{contains}
use Rattle.ground_types.specs.Rows.{points}
use Rattle.ground_types.specs.Truth.{body_holds}
use Rattle.point_rule.specs.Known.{known}
use Rattle.delay_revise.specs.Working.{triggers_of}
use Rattle.delay_revise.proofs.Joined.{some_has}
use Rattle.delay_revise.proofs.gather.points_of_rules.Given as goal

abbrev pub invariant-loop-rule : goal.invariant-loop-rule
invariant-loop-rule g l = record {
  points : (t : ℕ) → some_has l.parts t ≡ list_any
      (λ rule. contains (points (body_holds (known l.cache.rows l.store) rule) l.w l.q) t)
      (take l.rule-index l.rules);
  steps : l.steps ≡ record {
    count = l.fn.steps.count + triggers_of (known l.cache.rows l.store)
        (take l.rule-index l.rules) l.w l.q;
    out = l.fn.steps.out;
  };
}
