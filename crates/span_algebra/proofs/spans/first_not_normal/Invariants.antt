use Rattle.std.proofs.Common.{take}
use Rattle.span_algebra.specs.Normal.{IsNormal}
use Rattle.span_algebra.proofs.spans.first_not_normal.Given as goal

abbrev pub invariant-loop-place : goal.invariant-loop-place
invariant-loop-place l = IsNormal (take l.place l.list)
