use Rattle.std.proofs.Common.{map, take}
use Rattle.rule_forms.specs.Forms.{plain}
use Rattle.strata_check.specs.Rows.{AreRows}
use Rattle.strata_check.proofs.rows.rows_of.Given as goal

abbrev pub invariant-loop-rule : goal.invariant-loop-rule
invariant-loop-rule l = AreRows (map plain (take l.rule-index l.rules)) l.known.names.now
    l.rows.items
