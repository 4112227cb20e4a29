use Rattle.std.proofs.Common.{◌∙◌, ap, arith}
use Rattle.static_fluent.specs.Constructs.{has_members}
use Rattle.static_fluent.proofs.Members.{each_needs}
use Rattle.delay_revise.proofs.ExprRows.{expr_row, rows_more, rows_done}
use Rattle.delay_revise.proofs.work.rows_of_exprs.Goals as goal

pub loop-expr-preserved : goal.loop-expr-preserved
loop-expr-preserved c = λ w q le inside.
    rows_more c.args.cache.now.rows c.args.exprs.now c.loop-expr.expr-index c.expr-item.result
    c.loop-expr.rows.items c.push.new.self.items
    c.in_ok-row.row w q c.loop-expr-test.true c.expr-item.is (c.loop-expr.invariant w q le inside)
    (expr_row c.args.cache.now.rows c.expr-item.result c.in_ok-row.row w q le inside
    (ap has_members c.expr-item.is ∙ each_needs has_members c.args.exprs.now c.loop-expr.expr-index
    c.expr-item.result c.loop-expr-test.true c.requires.members)
    c.in_ok-row.ensures.normal c.in_ok-row.ensures.each)
    c.in_ok-push.ensures.items

pub returns : goal.returns
returns c = λ w q le inside.
    rows_done c.args.cache.now.rows c.args.exprs.now c.loop-expr.expr-index c.loop-expr.rows.items
    w q (omega (arith, c.loop-expr-test.false))
    (c.loop-expr.invariant w q le inside)
