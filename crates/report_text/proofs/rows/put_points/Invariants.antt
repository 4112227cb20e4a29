use Rattle.std.proofs.Common.{◌≡◌, ◌++◌, take, codes, decimal}
use Rattle.std.specs.Prelude.{flat_map}
use Rattle.report_text.proofs.rows.put_points.Given as goal

abbrev pub invariant-loop-point : goal.invariant-loop-point
invariant-loop-point l = l.out.items ≡ l.fn.out.items ++ flat_map (λ t. codes " " ++ decimal t)
    (take l.point-index l.points)
