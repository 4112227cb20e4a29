use Rattle.std.proofs.Common.{◌≡◌, ◌+◌, ℕ, [], length, take, get_or}
use Rattle.std.specs.List.{list_any}
use Rattle.ground_types.specs.Rows.{points}
use Rattle.ground_types.specs.Truth.{body_holds}
use Rattle.point_rule.specs.Known.{known}
use Rattle.delay_revise.specs.Working.{triggers_of}
use Rattle.delay_revise.proofs.Joined.{some_has, rule_has}
use Rattle.delay_revise.proofs.gather.points_by_value.Given as goal

abbrev pub invariant-loop-rule : goal.invariant-loop-rule
invariant-loop-rule g l = record {
  count : length l.parts.items ≡ l.fn.count;
  points : (v t : ℕ) → some_has (get_or l.parts.items v []) t
      ≡ list_any (rule_has (λ rule. points (body_holds (known l.cache.rows l.store) rule) l.w l.q)
      v t) (take l.rule-index l.rules);
  steps : l.steps ≡ record {
    count = l.fn.steps.count + triggers_of (known l.cache.rows l.store)
        (take l.rule-index l.rules) l.w l.q;
    out = l.fn.steps.out;
  };
}
