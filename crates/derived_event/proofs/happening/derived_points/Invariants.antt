use Rattle.std.proofs.Common.{◌≡◌, take}
use Rattle.std.specs.List.{flat_map}
use Rattle.derived_event.proofs.happening.derived_points.Given as goal

abbrev pub invariant-loop-points : goal.invariant-loop-points
invariant-loop-points l = l.found.items ≡ flat_map (λ points. points) (take l.points-index l.rules)
