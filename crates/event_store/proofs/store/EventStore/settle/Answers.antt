use Rattle.std.proofs.Common.{rules}
use Rattle.std.proofs.lemmas.Map.Made.{map_same_pairs}
use Rattle.event_store.proofs.Turning.{settled, settled_standing, settled_stood}
use Rattle.event_store.proofs.store.EventStore.settle.Goals as goal

pub returns : goal.returns
returns c =
    let walked = map_same_pairs _ settled _ (λ k v b w f' t. search rules) _ _
    c.retain.ensures.filtered in
    let old = c.self.inside.by_event.entries in
    rw (← c.self.view_is) (record {
      standing = settled_standing old c.retain.new.self.entries walked;
      settled = settled_stood old c.retain.new.self.entries walked;
    })
