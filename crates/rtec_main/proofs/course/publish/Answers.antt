use Rattle.std.specs.Arc.{arc_value}
use Rattle.rtec_main.proofs.Courses.{follows}
use Rattle.rtec_main.proofs.course.publish.Goals as goal

pub put-requires : goal.put-requires
put-requires g c = record {
  next = follows c.args.course.now.reviser c.args.course.now.board
      (arc_value c.in_ok-publication.publication) c.requires.next
      c.in_ok-publication.ensures.publication;
}
