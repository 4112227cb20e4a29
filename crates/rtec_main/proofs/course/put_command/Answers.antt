use Rattle.std.proofs.Common.{◌≡◌, ◌++◌, refl, sym, ap, subst}
use Rattle.std.proofs.lemmas.Result.{on_ok_weaker}
use Rattle.ground_types.specs.History.{reply_to}
use Rattle.ground_types.specs.declared.entries.Command.{Command}
use Rattle.ground_types.specs.declared.entries.Entry.TheVariants.{Fed}
use Rattle.text_pieces.specs.Lines.{text_of_lines}
use Rattle.report_text.specs.Report.{lines_of}
use Rattle.rtec_main.specs.declared.course.Course.{Course}
use Rattle.rtec_main.proofs.Courses.{abreast_fed, seal_lines}
use Rattle.rtec_main.proofs.course.put_command.Goals as goal

pub returns-in-Feed-clause-abreast : goal.returns-in-Feed-clause-abreast
returns-in-Feed-clause-abreast g c =
    let old = c.args.course.now in
    on_ok_weaker c.put_feed.result
    (λ is. abreast_fed c.published_stays.ensures old c.put_feed.new.course
    (Fed c.in-Feed.feeder c.in-Feed.act c.in-Feed.event c.in-Feed.at
    (reply_to old.log.plan old.log.history c.in-Feed.act c.in-Feed.event c.in-Feed.at))
    refl c.requires.abreast (ap (λ (n : Course). n.names) is) (ap (λ (n : Course). n.log) is)
    (ap (λ (n : Course). n.reviser) is) (ap (λ (n : Course). n.board) is))
    c.put_feed.ensures.course

pub returns-in-Seal-clause-text : goal.returns-in-Seal-clause-text
returns-in-Seal-clause-text g c =
    let old = c.args.course.now in
    let before = c.args.text.now.items in
    let now = c.put_seal.new.text.items in
    on_ok_weaker c.put_seal.result
    (λ is. subst (λ (made : Command). now ≡ before ++ text_of_lines
    (lines_of old.names old.log.history made)) (sym c.in-Seal.is)
    (seal_lines old.names old.log.history before now is))
    c.put_seal.ensures.text
