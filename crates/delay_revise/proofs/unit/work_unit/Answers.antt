use Rattle.std.proofs.Common.{ℕ, Option, sym, ◌∙◌, ap}
use Rattle.ground_types.specs.Sound.{unit_values}
use Rattle.ground_types.specs.Touched.{rules_of}
use Rattle.point_rule.specs.Known.{known}
use Rattle.delay_revise.specs.Working.{rows_over}
use Rattle.delay_revise.proofs.Idle.{idle_rows, idle_touched}
use Rattle.delay_revise.proofs.unit.work_unit.Goals.{Then-branch}
use Rattle.delay_revise.proofs.unit.work_unit.Goals as goal

pub returns-then-branch-clause-rows : goal.returns-then-branch-clause-rows
returns-then-branch-clause-rows g c =
    let idle = c.in_ok-is_idle.ensures c.if-branch.true in
    idle_rows (known c.args.cache.now.rows c.args.store.now)
    (unit_values c.args.program.now c.args.unit.now) c.args.unit.now.kind c.args.w c.args.q idle.0
    idle.2
    ∙ ap (λ (o : Option ℕ). rows_over (known c.args.cache.now.rows c.args.store.now) o
    (unit_values c.args.program.now c.args.unit.now) c.args.unit.now.kind c.args.w c.args.q)
    (sym idle.1)

pub returns-then-branch-clause-evaluations : goal.returns-then-branch-clause-evaluations
returns-then-branch-clause-evaluations g c =
    let idle = c.in_ok-is_idle.ensures c.if-branch.true in
    sym (idle_touched c.args.before c.args.cache.now c.args.store.now
    (rules_of c.args.unit.now.kind) c.args.w c.args.q idle.2)
