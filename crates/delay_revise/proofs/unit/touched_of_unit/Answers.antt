use Rattle.std.proofs.Common.{List, sym, subst}
use Rattle.std.specs.List.{AllByRecursion}
use Rattle.ground_types.specs.Touched.{rules_of}
use Rattle.ground_types.specs.declared.program.UnitKind.{UnitKind}
use Rattle.point_rule.specs.Known.{HasRows}
use Rattle.span_algebra.specs.declared.rows.UnitRows.{UnitRows}
use Rattle.delay_revise.proofs.UnitRows.{each_right}
use Rattle.delay_revise.proofs.unit.touched_of_unit.Goals.{After-as_slice-in-Simple}
use Rattle.delay_revise.proofs.unit.touched_of_unit.Goals as goal

-- the rules that terminate name rows, where all rules of the unit do
terminate_named : (c : After-as_slice-in-Simple) (rows : List UnitRows)
    → AllByRecursion (HasRows rows) (rules_of c.args.kind.now)
    → AllByRecursion (HasRows rows) c.as_slice-in-Simple.result.now
terminate_named c rows named =
    subst (AllByRecursion (HasRows rows)) (sym c.as_slice-in-Simple.ensures)
    (each_right (HasRows rows) c.in-Simple.initiate c.in-Simple.terminate
    (subst (λ (k : UnitKind). AllByRecursion (HasRows rows) (rules_of k)) c.in-Simple.is named))

pub count_touched-requires-in-Simple-clause-rows : goal.count_touched-requires-in-Simple-clause-rows
count_touched-requires-in-Simple-clause-rows c =
    let at = goal.at.count_touched-requires-in-Simple-clause-rows c in
    terminate_named at.After-as_slice-in-Simple c.args.cache.now.rows c.requires.rows

pub count_touched-requires-in-Simple-clause-old_rows :
    goal.count_touched-requires-in-Simple-clause-old_rows
count_touched-requires-in-Simple-clause-old_rows c =
    let at = goal.at.count_touched-requires-in-Simple-clause-old_rows c in
    terminate_named at.After-as_slice-in-Simple c.args.cache.now.before c.requires.old_rows
