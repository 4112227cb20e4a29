use Rattle.std.proofs.Common.{◌≡◌, take}
use Rattle.std.specs.List.{flat_map}
use Rattle.event_store.specs.Occurring.{occurrences_of}
use Rattle.event_store.proofs.store.EventStore.occurrences.Given as goal

abbrev pub invariant-loop-event : goal.invariant-loop-event
invariant-loop-event l = l.found.items ≡ flat_map (occurrences_of l.self l.w l.q)
    (take l.event-index l.event-items)
