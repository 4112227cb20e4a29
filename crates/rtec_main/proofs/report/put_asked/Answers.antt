use Rattle.std.proofs.Common.{◌≡◌, ◌++◌, map, sym, subst, refl}
use Rattle.std.specs.Arc.{arc_value}
use Rattle.std.proofs.lemmas.Result.{on_ok_weaker, on_err_weaker}
use Rattle.text_pieces.specs.Lines.{text_of_lines}
use Rattle.report_text.specs.Printed.{end_of, IsCounted, AreCounted}
use Rattle.rtec_main.specs.Coursing.{lead_text}
use Rattle.rtec_main.specs.Simulated.{asked_text}
use Rattle.rtec_main.specs.Writes.{IsOnWay}
use Rattle.rtec_main.proofs.Courses.{all_counted}
use Rattle.rtec_main.proofs.Reports.{cut_asked, asked_is}
use Rattle.rtec_main.proofs.Writing.{way_next, way_whole, cut_next, on_err, on_ok_both}
use Rattle.rtec_main.proofs.report.put_asked.Given.{Over}
use Rattle.rtec_main.proofs.report.put_asked.Goals.{In_ok-put_end}
use Rattle.rtec_main.proofs.report.put_asked.Goals as goal

pub returns-in_err-run_commands-clause-err : goal.returns-in_err-run_commands-clause-err
returns-in_err-run_commands-clause-err g c =
    on_err c.from_residual.result _
    (cut_asked (g.K.Sink.taken c.args.out.now) (g.K.Sink.taken c.run_commands.new.out)
    c.args.is_full c.args.course.now.names (map g.T.Commanded.command_of c.args.commands.now)
    c.args.ignored c.in_err-run_commands.ensures.err)

pub put_end-requires : goal.put_end-requires
put_end-requires g c =
    let done = c.in_ok-run_commands.ensures in
    record {
      counted = subst AreCounted (sym c.list.ensures.list)
          (all_counted c.run_commands.new.course (subst IsCounted (sym done.names)
          c.requires.counted) done.abreast);
    }

pub returns-in_err-put_end-clause-err : goal.returns-in_err-put_end-clause-err
returns-in_err-put_end-clause-err g c =
    on_err c.from_residual-in_err-put_end.result _
    (cut_asked (g.K.Sink.taken c.args.out.now) (g.K.Sink.taken c.run_commands.new.out)
    c.args.is_full c.args.course.now.names (map g.T.Commanded.command_of c.args.commands.now)
    c.args.ignored (c.run_commands.new.text.items, c.in_ok-run_commands.ensures.ok))

-- all parts of the text
whole : (g : Over) (c : In_ok-put_end g)
    → lead_text c.args.is_full c.args.course.now.names
    (map g.T.Commanded.command_of c.args.commands.now)
    ++ text_of_lines (end_of c.history-history.result.now c.args.ignored
    (map arc_value c.list.result.now))
    ≡ asked_text c.args.is_full c.args.course.now.names
    (map g.T.Commanded.command_of c.args.commands.now) c.args.ignored
whole g c =
    let done = c.in_ok-run_commands.ensures in
    asked_is c.run_commands.new.course c.args.is_full c.args.course.now.names
    (map g.T.Commanded.command_of c.args.commands.now) c.args.ignored
    c.history-history.result.now (map arc_value c.list.result.now) done.abreast done.names
    c.history-history.ensures.list done.history c.list.ensures.list

pub returns-clause-ok : goal.returns-clause-ok
returns-clause-ok g c =
    let old = g.K.Sink.taken c.args.out.now in
    let now = g.K.Sink.taken c.hand_on.new.out in
    let text = asked_text c.args.is_full c.args.course.now.names
    (map g.T.Commanded.command_of c.args.commands.now) c.args.ignored in
    on_ok_weaker c.hand_on.result
    (λ both. way_whole old now text (subst (λ left. IsOnWay old now left text) both.1
    (way_next old (g.K.Sink.taken c.run_commands.new.out) now c.run_commands.new.text.items _
    c.put_end.new.out.items c.hand_on.new.text.items _ text c.in_ok-run_commands.ensures.ok
    c.in_ok-put_end.ensures.added both.0
    (whole g (goal.at.returns-clause-ok g c).In_ok-put_end))))
    (on_ok_both c.hand_on.result _ _ c.hand_on.ensures.ok (c.hand_on.ensures.all refl))

pub returns-clause-err : goal.returns-clause-err
returns-clause-err g c =
    let old = g.K.Sink.taken c.args.out.now in
    let now = g.K.Sink.taken c.hand_on.new.out in
    on_err_weaker c.hand_on.result
    (λ cut. (
      cut.0,
      cut_next old (g.K.Sink.taken c.run_commands.new.out) now c.run_commands.new.text.items _
          c.put_end.new.out.items _ _ c.in_ok-run_commands.ensures.ok
          c.in_ok-put_end.ensures.added cut
          (whole g (goal.at.returns-clause-err g c).In_ok-put_end),
    ))
    c.hand_on.ensures.err
