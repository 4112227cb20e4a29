use Rattle.std.proofs.Common.{◌+◌, length}
use Rattle.span_algebra.proofs.Cutting.{IsCutting}
use Rattle.span_algebra.proofs.cut.cut_points.Given as goal

abbrev pub invariant-cut : goal.invariant-cut
invariant-cut l = IsCutting l.within l.points l.spans_left l.points_left l.out.items

abbrev pub decreases-cut : goal.decreases-cut
decreases-cut l = length l.spans_left + length l.points_left
