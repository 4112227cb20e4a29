use Rattle.std.proofs.Common.{◌≡◌, ◌≤◌, ◌*◌, take}
use Rattle.delay_revise.specs.Working.{touched_of}
use Rattle.delay_revise.proofs.gather.count_touched.Given as goal

abbrev pub invariant-loop-rule : goal.invariant-loop-rule
invariant-loop-rule l = record {
  count : l.count ≡ touched_of l.before l.cache l.store (take l.rule-index l.rules) l.w l.q;
  most : l.count ≤ l.rule-index * 1000000000000;
}
