use Rattle.std.proofs.Common.{length}
use Rattle.ground_types.specs.Rows.{points}
use Rattle.ground_types.specs.Truth.{happens, body_holds}
use Rattle.point_rule.specs.Known.{known}
use Rattle.delay_revise.proofs.Gathering.{steps_more, steps_within, on_err}
use Rattle.delay_revise.proofs.Joined.{gathered_more}
use Rattle.delay_revise.proofs.gather.points_of_rules.Goals as goal

pub loop-rule-preserved : goal.loop-rule-preserved
loop-rule-preserved g c =
    let table = known c.args.cache.now.rows c.args.store.now in
    record {
      points = λ t. gathered_more (λ rule. points (body_holds table rule) c.args.w c.args.q)
          c.args.rules.now c.loop-rule.rule-index c.rule-item.result
          c.loop-rule.parts c.push_rule.new.self t c.loop-rule-test.true c.rule-item.is
          (c.in_ok-push_rule.ensures.points t) (c.loop-rule.invariant.points t);
      steps = steps_more (λ rule. length (points (happens table rule.trigger) c.args.w c.args.q))
          c.args.rules.now c.loop-rule.rule-index c.rule-item.result
          c.args.steps.now c.loop-rule.steps _ c.loop-rule-test.true c.rule-item.is
          c.loop-rule.invariant.steps c.in_ok-push_rule.ensures.steps;
    }

pub returns-in_err-push_rule-clause-most : goal.returns-in_err-push_rule-clause-most
returns-in_err-push_rule-clause-most g c =
    let table = known c.args.cache.now.rows c.args.store.now in
    on_err _ (steps_within (λ rule. length (points (happens table rule.trigger) c.args.w c.args.q))
    c.args.rules.now c.loop-rule.rule-index c.rule-item.result
    c.args.steps.now c.loop-rule.steps c.push_rule.new.steps.count c.loop-rule-test.true
    c.rule-item.is c.loop-rule.invariant.steps c.in_err-push_rule.ensures.most)
