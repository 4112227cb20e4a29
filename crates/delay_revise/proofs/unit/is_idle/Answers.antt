use Rattle.std.proofs.Common.{sym, subst}
use Rattle.std.specs.List.{AllByRecursion}
use Rattle.ground_types.specs.Touched.{rules_of}
use Rattle.ground_types.specs.declared.program.UnitKind.{UnitKind}
use Rattle.point_rule.specs.Known.{HasRows}
use Rattle.delay_revise.proofs.UnitRows.{each_right}
use Rattle.delay_revise.proofs.unit.is_idle.Goals as goal

pub are_quiet-requires-then-branch : goal.are_quiet-requires-then-branch
are_quiet-requires-then-branch c = record {
  rows = subst (AllByRecursion (HasRows c.args.cache.now.rows)) (sym c.as_slice-then-branch.ensures)
      (each_right (HasRows c.args.cache.now.rows) c.in-Simple.initiate c.in-Simple.terminate
      (subst (λ (k : UnitKind). AllByRecursion (HasRows c.args.cache.now.rows) (rules_of k))
      c.in-Simple.is c.requires.rows));
}
