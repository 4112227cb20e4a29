use Rattle.std.proofs.Common.{◌≡◌, ℕ, Bool, true, false, ◌+◌, ◌≤◌, eqb, List, length, arith, sym}
use Rattle.std.proofs.Common.{◌∙◌, ap, take, subst}
use Rattle.std.specs.Prelude.{sum_by}
use Rattle.std.proofs.lemmas.Bool.Decides.{nat_tests}
use Rattle.std.proofs.lemmas.List.Sums.{sum_by_more_le}
use Rattle.ground_types.specs.Rows.{points}
use Rattle.ground_types.specs.Truth.{happens}
use Rattle.ground_types.specs.declared.program.Rule.{Rule}
use Rattle.point_rule.specs.Known.{known}
use Rattle.delay_revise.proofs.Gathering.{count_more}
use Rattle.delay_revise.proofs.gather.are_quiet.Goals as goal

none_of : (n : ℕ) (b : Bool) → b ≡ eqb n 0 → b ≡ true → 0 + n ≡ 0
none_of n b is empty = grind (arith, nat_tests)

some_of : (a n s : ℕ) (b : Bool) → b ≡ eqb n 0 → b ≡ false → a + n ≤ s → false ≡ eqb s 0
some_of a n s b is full le = grind (arith, nat_tests)

pub loop-rule-preserved : goal.loop-rule-preserved
loop-rule-preserved c =
    let f : Rule → ℕ = λ rule. length (points (happens (known c.args.cache.now.rows
    c.args.store.now) rule.trigger) c.args.w c.args.q) in
    let this : length c.as_slice-in-loop-rule.result.now ≡ f c.rule-item.result =
    ap (λ (l : List ℕ). length l) (c.as_slice-in-loop-rule.ensures.list
    ∙ c.in_ok-triggered.ensures) in
    sym (count_more f c.args.rules.now c.loop-rule.rule-index c.rule-item.result 0
    (length c.as_slice-in-loop-rule.result.now) c.loop-rule-test.true c.rule-item.is
    (sym c.loop-rule.invariant) this)
    ∙ none_of (length c.as_slice-in-loop-rule.result.now) c.is_empty.result c.is_empty.ensures
    c.if-not-is_empty.false

pub returns-then-not-is_empty : goal.returns-then-not-is_empty
returns-then-not-is_empty c =
    let f : Rule → ℕ = λ rule. length (points (happens (known c.args.cache.now.rows
    c.args.store.now) rule.trigger) c.args.w c.args.q) in
    let this : length c.as_slice-in-loop-rule.result.now ≡ f c.rule-item.result =
    ap (λ (l : List ℕ). length l) (c.as_slice-in-loop-rule.ensures.list
    ∙ c.in_ok-triggered.ensures) in
    some_of (sum_by f (take c.loop-rule.rule-index c.args.rules.now))
    (length c.as_slice-in-loop-rule.result.now) (sum_by f c.args.rules.now)
    c.is_empty.result c.is_empty.ensures c.if-not-is_empty.true
    (subst (λ (n : ℕ). sum_by f (take c.loop-rule.rule-index c.args.rules.now) + n
    ≤ sum_by f c.args.rules.now) (sym (this ∙ ap f c.rule-item.is))
    (sum_by_more_le f c.args.rules.now c.loop-rule.rule-index c.rule-item.result
    c.loop-rule-test.true))
