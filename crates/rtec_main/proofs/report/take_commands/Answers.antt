use Rattle.std.proofs.Common.{◌+◌, ◌∙◌, ap, arith}
use Rattle.ground_types.specs.declared.program.Program.{Program}
use Rattle.admit_core.specs.Log.{Log}
use Rattle.rtec_main.proofs.Reports.{history_next, of_program_at, has_place}
use Rattle.rtec_main.proofs.report.take_commands.Goals as goal

pub take_command-requires-clause-of_program : goal.take_command-requires-clause-of_program
take_command-requires-clause-of_program g c κs within =
    of_program_at g.T.Commanded.command_of c.loop-item.course.names c.args.course.now.names
    c.args.commands.now c.loop-item.item-index
    c.item-item.result c.command.result
    (c.command.ensures ∙ ap g.T.Commanded.command_of c.item-item.is)
    c.loop-item.invariant.names
    c.requires.of_program (omega arith)

pub take_command-requires-clause-place : goal.take_command-requires-clause-place
take_command-requires-clause-place g c κs within =
    let inv = c.loop-item.invariant in
    has_place g.T.Commanded.command_of c.loop-item.course.log c.args.commands.now
    c.loop-item.item-index
    c.item-item.result c.command.result
    (c.command.ensures ∙ ap g.T.Commanded.command_of c.item-item.is)
    c.args.course.now.names.plan
    (inv.abreast.plan ∙ ap (λ (p : Program). p.plan) inv.names) inv.history
    (omega (arith, c.requires.room, inv.cap)) c.requires.queries (omega arith)

pub loop-item-preserved : goal.loop-item-preserved
loop-item-preserved g c =
    let inv = c.loop-item.invariant in
    let made = c.in_ok-take_command.ensures in
    record {
      abreast = made.abreast;
      names = made.names ∙ inv.names;
      cap = ap (λ (l : Log). l.cap) made.log ∙ inv.cap;
      history = ap (λ (l : Log). l.history) made.log
          ∙ history_next g.T.Commanded.command_of c.loop-item.course.names
          c.args.course.now.names c.loop-item.course.log.history c.args.commands.now
          c.loop-item.item-index
          c.item-item.result c.command.result
          (c.command.ensures ∙ ap g.T.Commanded.command_of c.item-item.is)
          inv.names inv.history (omega arith);
      parts = c.take_command.ensures.parts ∙ inv.parts;
    }
