use Rattle.std.proofs.Common.{◌++◌, ap, ◌∙◌}
use Rattle.std.proofs.lemmas.Result.{on_ok_weaker}
use Rattle.event_store.proofs.Reading.{read_event}
use Rattle.event_store.proofs.store.EventStore.put_event.Goals as goal

pub returns : goal.returns
returns c = on_ok_weaker c.put_points.result (λ put. put ∙ ap (λ l. c.args.found.now.items ++ l)
    (read_event c.args.self.now c.args.w c.args.q c.args.event _ _ c.points.ensures
    c.within.ensures.list c.within.ensures.rising)) c.put_points.ensures
