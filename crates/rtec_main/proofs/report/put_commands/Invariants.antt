use Rattle.std.proofs.Common.{◌≡◌, [], map, take}
use Rattle.text_pieces.specs.Lines.{text_of_lines}
use Rattle.report_text.specs.Report.{command_lines, history_of}
use Rattle.rtec_main.specs.Coursing.{IsAbreast}
use Rattle.rtec_main.specs.Writes.{IsOnWay}
use Rattle.rtec_main.proofs.report.put_commands.Given as goal

pub record Keeps (Abreast Names Cap History Way None Parts : Type 0) : Type 0 where
  pub abreast : Abreast
  pub names : Names
  pub cap : Cap
  pub history : History
  pub way : Way
  pub none : None
  pub parts : Parts

abbrev pub invariant-loop-item : goal.invariant-loop-item
invariant-loop-item g l =
    Keeps (IsAbreast l.course) (l.course.names ≡ l.fn.course.names)
    (l.course.log.cap ≡ l.fn.course.log.cap)
    (l.course.log.history ≡ history_of l.fn.course.names.plan
    (map g.T.Commanded.command_of (take l.item-index l.commands)))
    (IsOnWay (g.K.Sink.taken l.fn.out) (g.K.Sink.taken l.out) l.text.items
    (text_of_lines (command_lines l.fn.course.names []
    (map g.T.Commanded.command_of (take l.item-index l.commands)))))
    (g.K.Sink.faults l.out ≡ g.K.Sink.faults l.fn.out)
    (l.steps.out ≡ l.fn.steps.out)
