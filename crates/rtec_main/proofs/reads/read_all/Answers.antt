use Rattle.std.proofs.Common.{◌∙◌, arith, length-take}
use Rattle.rtec_main.proofs.Streams.{read_more}
use Rattle.rtec_main.proofs.reads.read_all.Goals as goal

pub read-preserved : goal.read-preserved
read-preserved g c =
    record {
      front = read_more _ _ _ _ _ _ c.read.invariant.front (c.read.invariant.same c.args.name.now)
          c.in-Ok.ensures.told;
      same = λ other. c.in-Ok.ensures.same other ∙ c.read.invariant.same other;
      later = λ other. omega (arith, c.in-Ok.ensures.later other, c.read.invariant.later other);
      short = omega (
        arith,
        c.in-Ok.ensures.room,
        c.in-Ok.ensures.len,
        length-take c.min-room.result c.read.buffer,
        c.min-room.ensures,
        c.len-in-read.ensures,
        c.len.ensures,
        c.read-test.true,
      );
    }
