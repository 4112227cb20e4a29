use Rattle.std.proofs.Common.{◌≡◌, ◌++◌, map, take}
use Rattle.event_store.proofs.occurring.put_points.Given as goal

abbrev pub invariant-loop-at : goal.invariant-loop-at
invariant-loop-at l = l.found.items
    ≡ l.initial.found.items ++ map (λ t. record { event = l.event; at = t })
    (take l.at-index l.points)
