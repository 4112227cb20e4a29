use Rattle.std.proofs.Common.{◌∙◌, ap}
use Rattle.std.specs.Option.{unwrap_or}
use Rattle.std.proofs.lemmas.Result.{on_ok_weaker}
use Rattle.ground_types.specs.Touched.{differs}
use Rattle.span_algebra.specs.Normal.{has}
use Rattle.event_store.specs.Standing.{standing}
use Rattle.event_store.specs.Words.{after_words}
use Rattle.event_store.proofs.Merged.{told_standing, told_stood}
use Rattle.event_store.proofs.store.EventStore.tell_all.Goals as goal

pub returns-clause-standing : goal.returns-clause-standing
returns-clause-standing c = on_ok_weaker c.put.result (λ put e t.
    let before = has (standing c.args.self.now e) t in
    told_standing c.args.self.now c.in_ok-turned.turned c.in_ok-fresh.fresh.items
    c.put.new.by_event.entries c.self.inside.by_event.entries c.in_ok-fresh.ensures
    c.self.view_is put e t (after_words c.args.told.now e t before)
    (c.in_ok-turned.ensures e t
    ∙ ap (λ words. differs before (after_words words e t before)) c.deref.ensures.value
    ∙ ap (λ said. differs before (unwrap_or said before)) (c.in_ok-words.ensures e t)))
    c.put.ensures.put

pub returns-clause-settled : goal.returns-clause-settled
returns-clause-settled c = on_ok_weaker c.put.result (λ put. told_stood c.args.self.now
    c.in_ok-turned.turned c.in_ok-fresh.fresh.items c.put.new.by_event.entries
    c.self.inside.by_event.entries c.in_ok-fresh.ensures c.self.view_is put) c.put.ensures.put
