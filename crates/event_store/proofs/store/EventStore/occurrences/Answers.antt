use Rattle.std.proofs.Common.{◌≡◌, take, take_all, ap, ◌∙◌, arith}
use Rattle.std.specs.List.{flat_map}
use Rattle.event_store.specs.Occurring.{occurrences_of}
use Rattle.event_store.proofs.Reading.{read_out}
use Rattle.event_store.proofs.store.EventStore.occurrences.Goals as goal

pub returns : goal.returns
returns c =
    let all : take c.loop-event.event-index c.deref-event-items.result.now
    ≡ c.in_ok-events.events.items = take_all _ _ (omega (arith, c.loop-event-test.false))
    ∙ c.deref-event-items.ensures.value in
    λ bound below. c.loop-event.invariant
    ∙ ap (flat_map (occurrences_of c.args.self.now c.args.w c.args.q)) all
    ∙ read_out c.args.self.now c.args.w c.args.q c.in_ok-events.events.items
    c.in_ok-events.ensures.rising c.in_ok-events.ensures.all bound below
