use Rattle.std.proofs.Common.{take}
use Rattle.span_algebra.specs.Normal.{IsRising}
use Rattle.span_algebra.proofs.points.first_not_rising.Given as goal

abbrev pub invariant-loop-place : goal.invariant-loop-place
invariant-loop-place l = IsRising (take l.place l.list)
