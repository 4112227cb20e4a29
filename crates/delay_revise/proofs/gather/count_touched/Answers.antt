use Rattle.std.proofs.Common.{◌≡◌, ◌&&◌, ℕ, List, length, ◌∙◌, ap, arith}
use Rattle.ground_types.specs.Truth.{happens}
use Rattle.ground_types.specs.declared.program.Rule.{Rule}
use Rattle.point_rule.specs.Known.{known, is_open}
use Rattle.delay_revise.specs.Working.{open_points}
use Rattle.delay_revise.proofs.Gathering.{count_more}
use Rattle.delay_revise.proofs.UnitCounts.{points_few}
use Rattle.delay_revise.proofs.gather.count_touched.Goals as goal

pub loop-rule-preserved : goal.loop-rule-preserved
loop-rule-preserved c =
    let f : Rule → ℕ = λ rule. length (open_points c.args.before c.args.cache.now c.args.store.now
    c.args.w c.args.q rule) in
    let this : length c.as_slice.result.now ≡ f c.rule-item.result =
    ap (λ (l : List ℕ). length l) (c.as_slice.ensures.list ∙ c.in_ok-at.ensures) in
    record {
      count = count_more f c.args.rules.now c.loop-rule.rule-index c.rule-item.result
          c.loop-rule.count (length c.as_slice.result.now) c.loop-rule-test.true
          c.rule-item.is c.loop-rule.invariant.count this;
      most = omega (
        arith,
        c.loop-rule.invariant.most,
        this,
        points_few (λ t. happens (known c.args.cache.now.rows c.args.store.now)
            c.rule-item.result.trigger t && is_open c.args.before c.args.cache.now
            c.args.store.now c.rule-item.result t) c.args.w c.args.q,
        c.requires.width,
      );
    }
