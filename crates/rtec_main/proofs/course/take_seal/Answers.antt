use Rattle.std.specs.Arc.{arc_value}
use Rattle.std.proofs.lemmas.Result.{IfOk-weaker}
use Rattle.ground_types.specs.Sound.{IsSound}
use Rattle.rtec_main.specs.Coursing.{IsAbreast, Publishes}
use Rattle.rtec_main.proofs.Courses.{abreast_sealed, next_there, sealed_block, sealed_program}
use Rattle.rtec_main.proofs.course.take_seal.Goals as goal

pub publish-requires-clause-next : goal.publish-requires-clause-next
publish-requires-clause-next g c κs within =
    next_there c.args.course.now c.seal.new.course c.requires.abreast c.seal.ensures

pub returns-clause-abreast : goal.returns-clause-abreast
returns-clause-abreast g c =
    IfOk-weaker c.publish.result
    (λ p. Publishes c.seal.new.course c.publish.new.course (arc_value p))
    (λ p. IsAbreast c.publish.new.course)
    (λ p is. abreast_sealed c.published_stays.ensures c.args.course.now c.seal.new.course
    c.publish.new.course (arc_value p) c.requires.abreast c.seal.ensures is)
    c.publish.ensures.publishes

pub returns-clause-block : goal.returns-clause-block
returns-clause-block g c =
    IfOk-weaker c.publish.result
    (λ p. Publishes c.seal.new.course c.publish.new.course (arc_value p)) _
    (λ p is. sealed_block c.args.course.now c.seal.new.course c.publish.new.course (arc_value p)
    c.requires.abreast c.seal.ensures is)
    c.publish.ensures.publishes

pub returns-clause-program : goal.returns-clause-program
returns-clause-program g c =
    IfOk-weaker c.publish.result
    (λ p. Publishes c.seal.new.course c.publish.new.course (arc_value p))
    (λ p. IsSound (arc_value p).program)
    (λ p is. sealed_program c.args.course.now c.seal.new.course c.publish.new.course
    (arc_value p) c.requires.sound c.requires.abreast c.seal.ensures is)
    c.publish.ensures.publishes
