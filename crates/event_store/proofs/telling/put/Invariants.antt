use Rattle.std.proofs.Common.{◌≡◌, ◌≤◌, ℕ, vec_len}
use Rattle.indexmap.specs.IndexMap.{spare}
use Rattle.event_store.specs.Turned.{kept_first}
use Rattle.event_store.proofs.telling.put.Given as goal

abbrev pub invariant-loop-event : goal.invariant-loop-event
invariant-loop-event l = record {
  room : vec_len l.fresh ≤ spare l.by_event;
  put : (e : ℕ) → kept_first l.fresh.items l.by_event.entries e
      ≡ kept_first l.fn.fresh.items l.fn.by_event.entries e;
}

abbrev pub decreases-loop-event : goal.decreases-loop-event
decreases-loop-event l = vec_len l.fresh
