use Rattle.std.proofs.Common.{◌≡◌, ◌<◌, ◌+◌, ◌*◌, ◌&&◌, not, arith, length, map, ap, ap₂, sym, ◌∙◌}
use Rattle.std.specs.List.{list_any, list_all}
use Rattle.std.proofs.lemmas.List.{length-map}
use Rattle.std.proofs.lemmas.Result.{IfOk-weaker}
use Rattle.ground_types.specs.Truth.{expr_holds}
use Rattle.layer_cache.specs.Told.{told}
use Rattle.span_algebra.specs.Normal.{covers}
use Rattle.static_fluent.specs.Constructs.{has_members, has_rows}
use Rattle.static_fluent.specs.Evaluated.{spans_in}
use Rattle.static_fluent.proofs.Members.{same_any, same_all, first_needs, others_need, each_needs}
use Rattle.static_fluent.proofs.Members.{union_holds, intersect_holds, complement_holds}
use Rattle.static_fluent.proofs.Members.{union_needs, intersect_needs, intersect_some, one_weight}
use Rattle.static_fluent.proofs.Members.{weight, total, union_weight, intersect_weight}
use Rattle.static_fluent.proofs.Members.{complement_weight}
use Rattle.static_fluent.proofs.rows.+evaluation.Goals as goal

pub evaluate-evaluate_any-requires : goal.evaluate-evaluate_any-requires
evaluate-evaluate_any-requires t c =
    let v = c.in-Union.exprs in
    let count = length c.args.cache.now.rows in
    let needs = union_needs count v (ap (has_rows count) (sym c.in-Union.is) ∙ c.requires.rows)
    (ap has_members (sym c.in-Union.is) ∙ c.requires.members) in
    let all = c.as_slice.ensures.value in
    let less : 3 * total c.as_slice.result.now + 2 < 3 * weight c.args.expr.now =
    omega (arith, ap total all, ap weight c.in-Union.is, union_weight v) in
    (omega (arith, less, c.decreases), rw all needs)

pub evaluate-evaluate_each-requires : goal.evaluate-evaluate_each-requires
evaluate-evaluate_each-requires t c =
    let v = c.in-Intersect.exprs in
    let count = length c.args.cache.now.rows in
    let members = ap has_members (sym c.in-Intersect.is) ∙ c.requires.members in
    let needs = intersect_needs count v (ap (has_rows count) (sym c.in-Intersect.is)
    ∙ c.requires.rows) members in
    let all = c.as_slice-in-Intersect.ensures.value in
    let less : 3 * total c.as_slice-in-Intersect.result.now + 2 < 3 * weight c.args.expr.now =
    omega (arith, ap total all, ap weight c.in-Intersect.is, intersect_weight v) in
    (omega (arith, less, c.decreases), (rw all (intersect_some v members), rw all needs))

pub evaluate-evaluate_rest-requires : goal.evaluate-evaluate_rest-requires
evaluate-evaluate_rest-requires t c =
    let b = c.in-Complement.first in
    let v = c.in-Complement.exprs in
    let count = length c.args.cache.now.rows in
    let rows = ap (has_rows count) (sym c.in-Complement.is) ∙ c.requires.rows in
    let members = ap has_members (sym c.in-Complement.is) ∙ c.requires.members in
    let first = first_needs count b v rows members in
    let others = others_need count b v rows members in
    let one = c.deref.ensures in
    let all = c.as_slice-in-Complement.ensures.value in
    let less : 3 * (weight c.deref.result.now + total c.as_slice-in-Complement.result.now) + 2
    < 3 * weight c.args.expr.now =
    omega (arith, ap weight one, ap total all, ap weight c.in-Complement.is, complement_weight b v)
    in
    (omega (arith, less, c.decreases), (rw one first.0, (rw one first.1, rw all others)))

pub evaluate-returns-in-Union : goal.evaluate-returns-in-Union
evaluate-returns-in-Union t c =
    let v = c.in-Union.exprs in
    let table = told c.args.cache.now.rows in
    IfOk-weaker c.evaluate_any.result _ _
    (λ member each u. each u ∙ ap (list_any (λ e. expr_holds table e u)) c.as_slice.ensures.value
    ∙ sym (union_holds table u v) ∙ ap (λ e. expr_holds table e u) (sym c.in-Union.is))
    c.evaluate_any.ensures

pub evaluate-returns-in-Intersect : goal.evaluate-returns-in-Intersect
evaluate-returns-in-Intersect t c =
    let v = c.in-Intersect.exprs in
    let table = told c.args.cache.now.rows in
    IfOk-weaker c.evaluate_each.result _ _
    (λ member each u. each u ∙ ap (list_all (λ e. expr_holds table e u))
    c.as_slice-in-Intersect.ensures.value
    ∙ sym (intersect_holds table u v) ∙ ap (λ e. expr_holds table e u) (sym c.in-Intersect.is))
    c.evaluate_each.ensures

pub evaluate-returns-in-Complement : goal.evaluate-returns-in-Complement
evaluate-returns-in-Complement t c =
    let b = c.in-Complement.first in
    let v = c.in-Complement.exprs in
    let table = told c.args.cache.now.rows in
    IfOk-weaker c.evaluate_rest.result _ _
    (λ member each u. each u ∙ ap₂ (λ first others. first && not others)
    (ap (λ e. expr_holds table e u) c.deref.ensures)
    (ap (list_any (λ e. expr_holds table e u)) c.as_slice-in-Complement.ensures.value)
    ∙ sym (complement_holds table u b v) ∙ ap (λ e. expr_holds table e u) (sym c.in-Complement.is))
    c.evaluate_rest.ensures

pub evaluate_all-evaluate-requires : goal.evaluate_all-evaluate-requires
evaluate_all-evaluate-requires t c =
    let es = c.args.exprs.now in
    let e = c.expr-item.result in
    let i = c.loop-expr.expr-index in
    let count = length c.args.cache.now.rows in
    let here = c.expr-item.is in
    let less : 3 * weight e < 3 * total es + 1 =
    omega (arith, ap weight here, one_weight es i e c.loop-expr-test.true) in (
      omega (arith, less, c.decreases),
      (
        ap (has_rows count) here ∙ each_needs (has_rows count) es i e c.loop-expr-test.true
            c.requires.rows,
        ap has_members here ∙ each_needs has_members es i e c.loop-expr-test.true
            c.requires.members,
      ),
    )

pub evaluate_any-returns : goal.evaluate_any-returns
evaluate_any-returns t c = λ u.
    let table = told c.args.cache.now.rows in
    c.in_ok-united.ensures u
    ∙ same_any (λ b. b) (λ m. covers (spans_in m) u) (λ e. expr_holds table e u)
    c.as_slice.result.now c.args.exprs.now
    (ap (map (λ m. covers (spans_in m) u)) c.as_slice.ensures.value ∙ c.in_ok-members.ensures u)

pub evaluate_each-shared-requires : goal.evaluate_each-shared-requires
evaluate_each-shared-requires t c =
    let table = told c.args.cache.now.rows in
    let ms = c.as_slice.result.now in
    let es = c.args.exprs.now in
    let same = ap (map (λ m. covers (spans_in m) 0)) c.as_slice.ensures.value
    ∙ c.in_ok-members.ensures 0 in
    let as_many : length ms ≡ length es = sym (length-map ms (λ m. covers (spans_in m) 0))
    ∙ ap length same ∙ length-map es (λ e. expr_holds table e 0) in
    omega (arith, as_many, c.requires.some)

pub evaluate_each-returns : goal.evaluate_each-returns
evaluate_each-returns t c = λ u.
    let table = told c.args.cache.now.rows in
    c.in_ok-shared.ensures u
    ∙ same_all (λ b. b) (λ m. covers (spans_in m) u) (λ e. expr_holds table e u)
    c.as_slice.result.now c.args.exprs.now
    (ap (map (λ m. covers (spans_in m) u)) c.as_slice.ensures.value ∙ c.in_ok-members.ensures u)

pub evaluate_rest-returns : goal.evaluate_rest-returns
evaluate_rest-returns t c = λ u.
    let table = told c.args.cache.now.rows in
    c.in_ok-left_over.ensures u
    ∙ ap₂ (λ first others. first && not others) (c.in_ok-first.ensures u)
    (same_any (λ b. b) (λ m. covers (spans_in m) u) (λ e. expr_holds table e u)
    c.as_slice.result.now c.args.others.now
    (ap (map (λ m. covers (spans_in m) u)) c.as_slice.ensures.value ∙ c.in_ok-others.ensures u))
