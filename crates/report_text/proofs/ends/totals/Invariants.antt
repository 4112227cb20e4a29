use Rattle.std.proofs.Common.{◌≡◌, ◌≤◌, ◌*◌, ◌-◌, ◌^◌, map, take}
use Rattle.std.specs.Prelude.{sum_by}
use Rattle.std.specs.Arc.{arc_value}
use Rattle.report_text.specs.Printed.{spans_in, points_in}
use Rattle.report_text.proofs.ends.totals.Given as goal

abbrev pub invariant-loop-publication : goal.invariant-loop-publication
invariant-loop-publication l = record {
  spans : l.spans ≡ sum_by spans_in (map arc_value (take l.publication-index l.list));
  points : l.points ≡ sum_by points_in (map arc_value (take l.publication-index l.list));
  evaluations : l.evaluations ≡ sum_by (λ parts. parts.evaluations)
      (map arc_value (take l.publication-index l.list));
  few_spans : l.spans ≤ l.publication-index * (2 ^ 64 - 1);
  few_points : l.points ≤ l.publication-index * (2 ^ 64 - 1);
  few_evaluations : l.evaluations ≤ l.publication-index * (2 ^ 64 - 1);
}
