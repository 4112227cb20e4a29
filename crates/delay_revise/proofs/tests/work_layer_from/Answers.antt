use Rattle.delay_revise.proofs.Orders.{both_kept}
use Rattle.delay_revise.proofs.tests.work_layer_from.Goals as goal

pub turn-requires-clause-kept : goal.turn-requires-clause-kept
turn-requires-clause-kept g c =
    both_kept c.args.reviser.now c.work_down.new.reviser c.work_down-2.new.reviser
    c.args.units.now _ c.requires.units c.in_ok-work_down.ensures.kept
    c.in_ok-work_down-2.ensures.kept
