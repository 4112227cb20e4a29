use Rattle.std.proofs.Common.{refl, ap}
use Rattle.ground_types.specs.History.{reply_to}
use Rattle.ground_types.specs.declared.entries.Entry.TheVariants.{Fed}
use Rattle.rtec_main.specs.declared.course.Course.{Course}
use Rattle.rtec_main.proofs.Courses.{abreast_fed}
use Rattle.rtec_main.proofs.course.take_command.Goals as goal

pub returns-in-Feed-clause-abreast : goal.returns-in-Feed-clause-abreast
returns-in-Feed-clause-abreast g c =
    let old = c.args.course.now in
    let is = c.admit-entry.ensures.course in
    abreast_fed c.published_stays.ensures old c.admit-entry.new.course
    (Fed c.in-Feed.feeder c.in-Feed.act c.in-Feed.event c.in-Feed.at
    (reply_to old.log.plan old.log.history c.in-Feed.act c.in-Feed.event c.in-Feed.at))
    refl c.requires.abreast (ap (λ (n : Course). n.names) is) (ap (λ (n : Course). n.log) is)
    (ap (λ (n : Course). n.reviser) is) (ap (λ (n : Course). n.board) is)
