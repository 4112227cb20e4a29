use Rattle.std.proofs.Common.{◌-◌, arith}
use Rattle.delay_revise.proofs.Orders.{one_more}
use Rattle.delay_revise.proofs.tests.work_down.Goals as goal

pub loop-place-preserved : goal.loop-place-preserved
loop-place-preserved g c = record {
  kept = one_more c.args.reviser.now c.loop-place.reviser c.keep.new.self c.args.units.now
      c.loop-place.place (c.loop-place.place - 1) c.args.to c.requires.ready c.requires.units
      (omega arith) c.loop-place.invariant.kept (omega arith) c.keep.ensures;
  below = omega arith;
  out = omega arith;
}
