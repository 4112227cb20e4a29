use Rattle.std.proofs.Common.{◌+◌, ◌∙◌, ap, arith}
use Rattle.ground_types.specs.declared.program.Program.{Program}
use Rattle.admit_core.specs.Log.{Log}
use Rattle.rtec_main.proofs.Reports.{history_next, text_next, cut_so_far, of_program_at, has_place}
use Rattle.rtec_main.proofs.Writing.{way_next, cut_next, on_err}
use Rattle.rtec_main.proofs.report.put_commands.Goals as goal

pub put_command-requires-clause-of_program : goal.put_command-requires-clause-of_program
put_command-requires-clause-of_program g c κs within =
    of_program_at g.T.Commanded.command_of c.loop-item.course.names c.args.course.now.names
    c.args.commands.now c.loop-item.item-index
    c.item-item.result c.command-command.result
    (c.command-command.ensures ∙ ap g.T.Commanded.command_of c.item-item.is)
    c.loop-item.invariant.names c.requires.of_program (omega arith)

pub put_command-requires-clause-place : goal.put_command-requires-clause-place
put_command-requires-clause-place g c κs within =
    let inv = c.loop-item.invariant in
    has_place g.T.Commanded.command_of c.loop-item.course.log c.args.commands.now
    c.loop-item.item-index
    c.item-item.result c.command-command.result
    (c.command-command.ensures ∙ ap g.T.Commanded.command_of c.item-item.is)
    c.args.course.now.names.plan
    (inv.abreast.plan ∙ ap (λ (p : Program). p.plan) inv.names) inv.history
    (omega (arith, c.requires.room, inv.cap)) c.requires.queries (omega arith)

pub returns-in_err-put_command-clause-err : goal.returns-in_err-put_command-clause-err
returns-in_err-put_command-clause-err g c =
    on_err c.from_residual.result _
    (cut_so_far g.T.Commanded.command_of (g.K.Sink.taken c.args.out.now)
    (g.K.Sink.taken c.loop-item.out) c.loop-item.text.items c.args.course.now.names
    c.args.commands.now
    c.loop-item.item-index c.loop-item.invariant.way)

pub returns-in_err-hand_on-clause-err : goal.returns-in_err-hand_on-clause-err
returns-in_err-hand_on-clause-err g c =
    let inv = c.loop-item.invariant in
    let old = g.K.Sink.taken c.args.out.now in
    let now = g.K.Sink.taken c.hand_on.new.out in
    on_err c.from_residual-in_err-hand_on.result _
    (cut_so_far g.T.Commanded.command_of old now c.in_err-hand_on.ensures.err.0
    c.args.course.now.names c.args.commands.now (c.loop-item.item-index + 1)
    (cut_next old (g.K.Sink.taken c.loop-item.out) now c.loop-item.text.items _
    c.put_command.new.text.items _ _ inv.way c.in_ok-put_command.ensures.text
    c.in_err-hand_on.ensures.err
    (text_next g.T.Commanded.command_of c.loop-item.course.names c.args.course.now.names
    c.loop-item.course.log.history c.args.commands.now c.loop-item.item-index
    c.item-item.result c.command-command.result
    (c.command-command.ensures ∙ ap g.T.Commanded.command_of c.item-item.is)
    inv.names
    inv.history (omega arith))))

pub loop-item-preserved : goal.loop-item-preserved
loop-item-preserved g c =
    let inv = c.loop-item.invariant in
    let made = c.in_ok-put_command.ensures in
    record {
      abreast = made.abreast;
      names = made.names ∙ inv.names;
      cap = ap (λ (l : Log). l.cap) made.log ∙ inv.cap;
      history = ap (λ (l : Log). l.history) made.log
          ∙ history_next g.T.Commanded.command_of c.loop-item.course.names c.args.course.now.names
          c.loop-item.course.log.history c.args.commands.now c.loop-item.item-index
          c.item-item.result c.command-command.result
          (c.command-command.ensures ∙ ap g.T.Commanded.command_of c.item-item.is)
          inv.names inv.history (omega arith);
      way = way_next (g.K.Sink.taken c.args.out.now) (g.K.Sink.taken c.loop-item.out)
          (g.K.Sink.taken c.hand_on.new.out) c.loop-item.text.items _
          c.put_command.new.text.items c.hand_on.new.text.items _ _ inv.way made.text
          c.in_ok-hand_on.ensures.ok
          (text_next g.T.Commanded.command_of c.loop-item.course.names c.args.course.now.names
          c.loop-item.course.log.history c.args.commands.now c.loop-item.item-index
          c.item-item.result c.command-command.result
          (c.command-command.ensures ∙ ap g.T.Commanded.command_of c.item-item.is)
          inv.names inv.history (omega arith));
      none = c.in_ok-hand_on.ensures.blame ∙ inv.none;
      parts = c.put_command.ensures.parts ∙ inv.parts;
    }
