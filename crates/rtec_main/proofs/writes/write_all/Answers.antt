use Rattle.std.proofs.Common.{◌+◌, ◌∙◌}
use Rattle.rtec_main.proofs.Streams.{written_more, whole_tail}
use Rattle.rtec_main.proofs.writes.write_all.Goals as goal

pub write-preserved : goal.write-preserved
write-preserved g c =
    record {
      written = (
        c.write.invariant.written.0 + c.in_ok-count.count,
        written_more _ _ _ _ _ _ _ c.write.invariant.written.1 c.in_ok-count.ensures.front.within
            c.in_ok-count.ensures.ok _ (whole_tail c.write.rest.now c.in_ok-count.count),
      );
      none = c.in_ok-count.ensures.none ∙ c.write.invariant.none;
    }
