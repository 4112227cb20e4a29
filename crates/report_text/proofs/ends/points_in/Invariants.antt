use Rattle.std.proofs.Common.{◌≡◌, ◌≤◌, ◌^◌, take}
use Rattle.std.specs.Prelude.{sum_by}
use Rattle.report_text.specs.Report.{point_count}
use Rattle.report_text.specs.Printed.{rows_in}
use Rattle.report_text.proofs.ends.points_in.Given as goal

abbrev pub invariant-loop-unit : goal.invariant-loop-unit
invariant-loop-unit l = record {
  value : l.points ≡ sum_by point_count (take l.unit (rows_in l.publication));
  few : l.points ≤ 2 ^ 63;
}
