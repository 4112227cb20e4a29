use Rattle.std.proofs.Common.{◌≡◌, [], map, refl, sym, subst, OnOk, OnErr}
use Rattle.rtec_main.specs.Coursing.{lead_text}
use Rattle.rtec_main.specs.Writes.{IsOnWay, IsCut}
use Rattle.rtec_main.proofs.Writing.{way_starts, cut_none, on_err}
use Rattle.rtec_main.proofs.report.run_commands.Goals as goal

pub returns-then-is_full-clause-ok : goal.returns-then-is_full-clause-ok
returns-then-is_full-clause-ok g c =
    subst (λ b. OnOk c.put_commands.result (IsOnWay (g.K.Sink.taken c.args.out.now)
    (g.K.Sink.taken c.put_commands.new.out) c.put_commands.new.text.items
    (lead_text b c.args.course.now.names (map g.T.Commanded.command_of c.args.commands.now))))
    (sym c.if-is_full.true) c.put_commands.ensures.ok

pub returns-then-is_full-clause-err : goal.returns-then-is_full-clause-err
returns-then-is_full-clause-err g c =
    subst (λ b. OnErr c.put_commands.result (IsCut (g.K.Sink.taken c.args.out.now)
    (g.K.Sink.taken c.put_commands.new.out)
    (lead_text b c.args.course.now.names (map g.T.Commanded.command_of c.args.commands.now))))
    (sym c.if-is_full.true) c.put_commands.ensures.err

pub returns-in_err-take_commands-clause-err : goal.returns-in_err-take_commands-clause-err
returns-in_err-take_commands-clause-err g c =
    on_err c.from_residual.result _ (cut_none (g.K.Sink.taken c.args.out.now) _)

pub returns-clause-ok : goal.returns-clause-ok
returns-clause-ok g c =
    let old = g.K.Sink.taken c.args.out.now in
    subst (λ b. IsOnWay old old c.args.text.now.items
    (lead_text b c.args.course.now.names (map g.T.Commanded.command_of c.args.commands.now)))
    (sym c.if-is_full.false)
    (subst (λ left. IsOnWay old old left []) (sym c.requires.empty) (way_starts old []))
