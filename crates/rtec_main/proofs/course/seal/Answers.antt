use Rattle.rtec_main.proofs.Courses.{chunk_may}
use Rattle.rtec_main.proofs.Streams.{whole_tail}
use Rattle.rtec_main.proofs.course.seal.Goals as goal

pub take_chunk-requires : goal.take_chunk-requires
take_chunk-requires c =
    record {
      chunk = chunk_may c.args.course.now c.seal.new.self _ c.history-history.result.now
          c.in-Ok._number c.taken-taken.result c.requires.abreast c.in-Ok.ensures.ok
          c.history-history.ensures.kept c.history-history.ensures.list c.taken-taken.ensures
          (whole_tail c.history-history.result.now c.taken-taken.result);
    }
