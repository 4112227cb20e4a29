use Rattle.std.proofs.Common.{arith, ◌∙◌}
use Rattle.layer_workers.proofs.Worked.{cost_within, one_more_answer, one_more_cost}
use Rattle.layer_workers.proofs.crew.in_turn.Goals as goal

pub returns-in_err-out-clause-most : goal.returns-in_err-out-clause-most
returns-in_err-out-clause-most g c =
    let within = cost_within (g.P.Piece.cost c.args.piece.now) _ _ c.loop-number-test.true in
    omega arith

pub returns-in_err-push-clause-most : goal.returns-in_err-push-clause-most
returns-in_err-push-clause-most g c =
    let within = cost_within (g.P.Piece.cost c.args.piece.now) _ _ c.loop-number-test.true in
    omega arith

pub loop-number-preserved : goal.loop-number-preserved
loop-number-preserved g c = record {
  all = one_more_answer _ _ _ _ _ c.loop-number.invariant.all
      c.in_ok-out.ensures.answer c.in_ok-push.ensures.items;
  steps = one_more_cost _ _ _ _ _ c.loop-number.invariant.steps c.in_ok-out.ensures.ok;
  out = c.work.ensures.out ∙ c.loop-number.invariant.out;
}
