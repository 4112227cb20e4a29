use Rattle.std.proofs.Common.{◌≡◌, ◌<◌, ◌≤◌, ℕ, List, [], length, set, get_or, take_all, refl}
use Rattle.std.proofs.Common.{◌∙◌, ap, arith, length-set}
use Rattle.std.specs.List.{AllByRecursion, list_any}
use Rattle.std.proofs.lemmas.List.{get_or_read}
use Rattle.std.proofs.lemmas.Result.{IfOk-weaker}
use Rattle.ground_types.specs.Members.{contains}
use Rattle.ground_types.specs.Inertia.{values_with}
use Rattle.ground_types.specs.Recognition.{values_of}
use Rattle.ground_types.specs.Rows.{points}
use Rattle.ground_types.specs.Truth.{happens, body_holds}
use Rattle.ground_types.specs.declared.program.Rule.{Rule}
use Rattle.simple_fluent.specs.Rows.{IsInside}
use Rattle.point_rule.specs.Known.{known}
use Rattle.delay_revise.proofs.Gathering.{steps_more, steps_within, on_err}
use Rattle.delay_revise.proofs.Joined.{some_has, rule_has, value_below, grown_more}
use Rattle.delay_revise.proofs.Joined.{values_found, found_inside}
use Rattle.delay_revise.proofs.gather.points_by_value.Given.{Over}
use Rattle.delay_revise.proofs.gather.points_by_value.Goals.{After-joined}
use Rattle.delay_revise.proofs.gather.points_by_value.Goals as goal

below_by : (a b c : ℕ) → a < c → b ≡ c → a < b
below_by a b c low is = omega arith

-- after the last rule each value has the points of all its rules
all_rules : (g : Over) (c : After-joined g) (v t : ℕ) → some_has (get_or c.loop-rule.parts.items v
    []) t
    ≡ list_any (rule_has (λ rule. points (body_holds (known c.args.cache.now.rows
    c.args.store.now) rule) c.args.w c.args.q) v t) c.args.rules.now
all_rules g c v t =
    let table = known c.args.cache.now.rows c.args.store.now in
    c.loop-rule.invariant.points v t
    ∙ ap (λ (rules : List Rule). list_any (rule_has (λ rule. points (body_holds table rule)
    c.args.w c.args.q) v t) rules)
    (take_all c.loop-rule.rule-index c.args.rules.now (omega (arith, c.loop-rule-test.false)))

-- and what is joined has the points of its parts
joined_is : (g : Over) (c : After-joined g) (points : List ℕ) (v t : ℕ) → contains points t
    ≡ some_has (get_or c.deref.result.now v []) t
    → contains points t ≡ some_has (get_or c.loop-rule.parts.items v []) t
joined_is g c points v t is =
    is ∙ ap (λ (parts : List (List (List ℕ))). some_has (get_or parts v []) t) c.deref.ensures.value

pub returns-in_err-push_rule-clause-most : goal.returns-in_err-push_rule-clause-most
returns-in_err-push_rule-clause-most g c =
    let table = known c.args.cache.now.rows c.args.store.now in
    on_err _ (steps_within (λ rule. length (points (happens table rule.trigger) c.args.w c.args.q))
    c.args.rules.now c.loop-rule.rule-index c.rule-item.result
    c.args.steps.now c.loop-rule.steps c.push_rule.new.steps.count c.loop-rule-test.true
    c.rule-item.is c.loop-rule.invariant.steps c.in_err-push_rule.ensures.most)

pub loop-rule-preserved : goal.loop-rule-preserved
loop-rule-preserved g c =
    let table = known c.args.cache.now.rows c.args.store.now in
    let low : c.rule-item.result.value < length c.loop-rule.parts.items =
    below_by _ _ c.args.count (value_below c.args.count c.args.rules.now c.loop-rule.rule-index
    c.rule-item.result c.requires.values c.loop-rule-test.true c.rule-item.is)
    c.loop-rule.invariant.count in
    let here : c.index_mut.result.now ≡ get_or c.loop-rule.parts.items c.rule-item.result.value [] =
    get_or_read c.loop-rule.parts.items _ _ low c.index_mut.ensures.value [] in
    record {
      count = length-set c.loop-rule.parts.items c.rule-item.result.value c.push_rule.new.self
          ∙ c.loop-rule.invariant.count;
      points = λ v t. grown_more (λ rule. points (body_holds table rule) c.args.w c.args.q)
          c.args.rules.now c.loop-rule.rule-index c.rule-item.result
          c.loop-rule.parts.items (set c.loop-rule.parts.items c.rule-item.result.value
          c.push_rule.new.self) c.index_mut.result.now c.push_rule.new.self
          v t c.loop-rule-test.true c.rule-item.is low here
          (c.in_ok-push_rule.ensures.points t) refl
          (c.loop-rule.invariant.points v t);
      steps = steps_more (λ rule. length (points (happens table rule.trigger) c.args.w c.args.q))
          c.args.rules.now c.loop-rule.rule-index c.rule-item.result
          c.args.steps.now c.loop-rule.steps _ c.loop-rule-test.true c.rule-item.is
          c.loop-rule.invariant.steps c.in_ok-push_rule.ensures.steps;
    }

pub returns-clause-inside : goal.returns-clause-inside
returns-clause-inside g c =
    let end = (goal.at.returns-clause-inside g c).After-joined in
    IfOk-weaker c.joined.result
    (λ found. (v t : ℕ) → contains (get_or found.items v []) t
    ≡ some_has (get_or c.deref.result.now v []) t)
    (λ found. AllByRecursion (IsInside c.args.w c.args.q) found.items)
    (λ found joined. found_inside (known c.args.cache.now.rows c.args.store.now) c.args.rules.now
    found.items c.loop-rule.parts.items c.args.w c.args.q
    (λ v t. joined_is g end (get_or found.items v []) v t (joined v t)) (all_rules g end))
    c.joined.ensures.points

pub returns-clause-points : goal.returns-clause-points
returns-clause-points g c =
    let end = (goal.at.returns-clause-points g c).After-joined in
    IfOk-weaker c.joined.result
    (λ found. (v t : ℕ) → contains (get_or found.items v []) t
    ≡ some_has (get_or c.deref.result.now v []) t)
    (λ found. (v t : ℕ) → c.args.w < t → t ≤ c.args.q →
    contains (values_with 0 found.items t) v
    ≡ contains (values_of (known c.args.cache.now.rows c.args.store.now) c.args.rules.now t) v)
    (λ found joined v t low high. values_found (known c.args.cache.now.rows c.args.store.now)
    c.args.rules.now found.items c.loop-rule.parts.items
    c.args.w c.args.q v t low high
    (joined_is g end (get_or found.items v []) v t (joined v t)) (all_rules g end v t))
    c.joined.ensures.points
