use Rattle.std.proofs.Common.{◌≡◌, map, take}
use Rattle.report_text.specs.Report.{history_of}
use Rattle.rtec_main.specs.Coursing.{IsAbreast}
use Rattle.rtec_main.proofs.report.take_commands.Given as goal

pub record Keeps (Abreast Names Cap History Parts : Type 0) : Type 0 where
  pub abreast : Abreast
  pub names : Names
  pub cap : Cap
  pub history : History
  pub parts : Parts

abbrev pub invariant-loop-item : goal.invariant-loop-item
invariant-loop-item g l =
    Keeps (IsAbreast l.course) (l.course.names ≡ l.fn.course.names)
    (l.course.log.cap ≡ l.fn.course.log.cap)
    (l.course.log.history ≡ history_of l.fn.course.names.plan
    (map g.T.Commanded.command_of (take l.item-index l.commands)))
    (l.steps.out ≡ l.fn.steps.out)
