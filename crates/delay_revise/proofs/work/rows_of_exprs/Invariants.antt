use Rattle.std.proofs.Common.{◌≡◌, ◌≤◌, ℕ, map, take}
use Rattle.ground_types.specs.Rows.{row}
use Rattle.ground_types.specs.Truth.{expr_holds}
use Rattle.layer_cache.specs.Told.{told}
use Rattle.simple_fluent.specs.Rows.{pairs}
use Rattle.delay_revise.specs.Working.{IsInWindow}
use Rattle.delay_revise.proofs.work.rows_of_exprs.Given as goal

abbrev pub invariant-loop-expr : goal.invariant-loop-expr
invariant-loop-expr l = (w q : ℕ) → w ≤ q → IsInWindow w q l.cache.rows →
    map pairs l.rows.items ≡ map (λ expr. row (expr_holds (told l.cache.rows) expr) w q)
    (take l.expr-index l.exprs)
