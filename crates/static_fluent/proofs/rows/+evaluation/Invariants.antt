use Rattle.std.proofs.Common.{◌≡◌, ℕ, ◌+◌, ◌*◌, map, take}
use Rattle.ground_types.specs.Truth.{expr_holds}
use Rattle.layer_cache.specs.Told.{told}
use Rattle.span_algebra.specs.Normal.{covers}
use Rattle.static_fluent.specs.Evaluated.{spans_in}
use Rattle.static_fluent.proofs.Members.{weight, total}
use Rattle.static_fluent.proofs.rows.+evaluation.Given as goal

abbrev pub invariant-evaluate_all-loop-expr : goal.invariant-evaluate_all-loop-expr
invariant-evaluate_all-loop-expr l = (t : ℕ) → map (λ m. covers (spans_in m) t) l.members.items
    ≡ map (λ expr. expr_holds (told l.cache.rows) expr t) (take l.expr-index l.exprs)

abbrev pub decreases-evaluate : goal.decreases-evaluate
decreases-evaluate l = 3 * weight l.expr.now

abbrev pub decreases-evaluate_any : goal.decreases-evaluate_any
decreases-evaluate_any l = 3 * total l.exprs.now + 2

abbrev pub decreases-evaluate_each : goal.decreases-evaluate_each
decreases-evaluate_each l = 3 * total l.exprs.now + 2

abbrev pub decreases-evaluate_rest : goal.decreases-evaluate_rest
decreases-evaluate_rest l = 3 * (weight l.first.now + total l.others.now) + 2

abbrev pub decreases-evaluate_all : goal.decreases-evaluate_all
decreases-evaluate_all l = 3 * total l.exprs.now + 1
