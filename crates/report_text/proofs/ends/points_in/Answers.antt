use Rattle.std.proofs.Common.{◌≡◌, ◌+◌, ◌*◌, arith, ap, ◌∙◌, take}
use Rattle.std.specs.Prelude.{sum_by}
use Rattle.report_text.specs.Report.{point_count}
use Rattle.report_text.specs.Printed.{rows_in}
use Rattle.report_text.proofs.Counts.{few_points, one_more_unit, at_most_all, all_units}
use Rattle.report_text.proofs.ends.points_in.Goals as goal

pub overflow_add-points : goal.overflow_add-points
overflow_add-points c =
    let parts = c.args.publication.now in
    let next : c.loop-unit.points + c.unit_points-points.result
    ≡ sum_by point_count (take (c.loop-unit.unit + 1) (rows_in parts)) =
    ap (λ n. n + c.unit_points-points.result) c.loop-unit.invariant.value
    ∙ ap (λ n. sum_by point_count (take c.loop-unit.unit (rows_in parts)) + n)
    c.unit_points-points.ensures
    ∙ one_more_unit point_count parts c.loop-unit.unit c.rows.result.now c.rows.ensures.row in
    omega (
      arith,
      next,
      at_most_all point_count parts (c.loop-unit.unit + 1) (65536 * 1000000000001)
          (few_points parts c.requires c.rows.ensures.right),
    )

pub loop-unit-preserved : goal.loop-unit-preserved
loop-unit-preserved c =
    let parts = c.args.publication.now in
    let next : c.loop-unit.points + c.unit_points-points.result
    ≡ sum_by point_count (take (c.loop-unit.unit + 1) (rows_in parts)) =
    ap (λ n. n + c.unit_points-points.result) c.loop-unit.invariant.value
    ∙ ap (λ n. sum_by point_count (take c.loop-unit.unit (rows_in parts)) + n)
    c.unit_points-points.ensures
    ∙ one_more_unit point_count parts c.loop-unit.unit c.rows.result.now c.rows.ensures.row in
    record {
      value = next;
      few = omega (
        arith,
        next,
        at_most_all point_count parts (c.loop-unit.unit + 1) (65536 * 1000000000001)
            (few_points parts c.requires c.rows.ensures.right),
      );
    }

pub returns-clause-value : goal.returns-clause-value
returns-clause-value c =
    c.loop-unit.invariant.value
    ∙ all_units point_count c.args.publication.now c.loop-unit.unit
    c.unit_count-unit-end.ensures.right
    (omega (arith, c.loop-unit-test.false, c.unit_count-unit-end.ensures.count))
