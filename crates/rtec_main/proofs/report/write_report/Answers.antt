use Rattle.std.proofs.Common.{◌≡◌, ◌∙◌, map, subst}
use Rattle.rt_base.specs.Outside.{with_bytes}
use Rattle.std.proofs.lemmas.Result.{on_ok_weaker, on_err_weaker}
use Rattle.ground_types.specs.declared.program.Program.{Program}
use Rattle.rtec_main.specs.Simulated.{asked_text}
use Rattle.rtec_main.specs.Writes.{IsCut}
use Rattle.rtec_main.proofs.Writing.{cut_none, on_err}
use Rattle.rtec_main.proofs.report.write_report.Goals as goal

pub returns-in_err-program-clause-err : goal.returns-in_err-program-clause-err
returns-in_err-program-clause-err g c =
    on_err c.from_residual.result _ (cut_none (g.K.Sink.taken c.args.out.now) _)

pub returns-in_err-course-clause-err : goal.returns-in_err-course-clause-err
returns-in_err-course-clause-err g c =
    on_err c.from_residual-in_err-course.result _ (cut_none (g.K.Sink.taken c.args.out.now) _)

pub returns-clause-ok : goal.returns-clause-ok
returns-clause-ok g c =
    on_ok_weaker c.put_asked-written.result
    (subst (λ (p : Program). g.K.Sink.taken c.put_asked-written.new.out
    ≡ with_bytes (asked_text c.args.is_full p (map g.T.Commanded.command_of c.args.commands.now)
    c.args.ignored) (g.K.Sink.taken c.args.out.now))
    (c.in_ok-course.ensures.names ∙ c.in_ok-program.ensures))
    c.put_asked-written.ensures.ok

pub returns-clause-err : goal.returns-clause-err
returns-clause-err g c =
    on_err_weaker c.put_asked-written.result
    (subst (λ (p : Program). IsCut (g.K.Sink.taken c.args.out.now)
    (g.K.Sink.taken c.put_asked-written.new.out)
    (asked_text c.args.is_full p (map g.T.Commanded.command_of c.args.commands.now)
    c.args.ignored))
    (c.in_ok-course.ensures.names ∙ c.in_ok-program.ensures))
    c.put_asked-written.ensures.err
