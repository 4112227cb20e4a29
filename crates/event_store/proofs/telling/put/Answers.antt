use Rattle.std.proofs.Common.{◌∙◌, arith}
use Rattle.event_store.proofs.Merged.{put_more, on_ok_at}
use Rattle.event_store.proofs.telling.put.Goals as goal

pub loop-event-preserved-in-Some : goal.loop-event-preserved-in-Some
loop-event-preserved-in-Some c = record {
  room = omega (arith, c.insert.ensures.spare, c.pop.ensures.len, c.in-Some.ensures.len);
  put = λ e. put_more c.pop.new.self.items c.loop-event.fresh.items c.loop-event.by_event.entries
      c.insert.new.self.entries c.in-Some.event c.in-Some.kept c.in-Some.ensures.items
      (on_ok_at _ _ _ c.unwrap-old.ensures c.insert.ensures.updates).0 e
      ∙ c.loop-event.invariant.put e;
}

pub loop-event-preserved : goal.loop-event-preserved
loop-event-preserved c = record {
  room = omega (arith, c.insert.ensures.spare, c.pop.ensures.len, c.in-Some.ensures.len);
  put = λ e. put_more c.pop.new.self.items c.loop-event.fresh.items c.loop-event.by_event.entries
      c.insert.new.self.entries c.in-Some.event c.in-Some.kept c.in-Some.ensures.items
      (on_ok_at _ _ _ c.unwrap-old.ensures c.insert.ensures.updates).0 e
      ∙ c.loop-event.invariant.put e;
}
