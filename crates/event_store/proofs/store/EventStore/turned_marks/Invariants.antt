use Rattle.std.proofs.Common.{map}
use Rattle.std.specs.Map.Iter.{deref_pair}
use Rattle.event_store.specs.Turned.{AreTurned}
use Rattle.event_store.proofs.store.EventStore.turned_marks.Given as goal

abbrev pub invariant-loop-event : goal.invariant-loop-event
invariant-loop-event l = AreTurned l.self (map deref_pair l.yielded) l.fresh.items
