use Rattle.std.proofs.Common.{sym, ap, ◌∙◌}
use Rattle.event_store.proofs.Lookups.{kept_found, kept_missing, standing_is}
use Rattle.event_store.proofs.store.EventStore.points.Goals as goal

pub returns-in-Some : goal.returns-in-Some
returns-in-Some c =
    let old = c.self.inside.by_event.entries in
    rw (← c.self.view_is) (ap (λ k. k.points) c.kept.view_is ∙ sym (standing_is c.args.event old
    ∙ ap (λ k. k.points) (kept_found c.args.event old c.in-Some.kept.now
    c.in-Some.ensures.value)))

pub returns-in-None : goal.returns-in-None
returns-in-None c =
    let old = c.self.inside.by_event.entries in
    rw (← c.self.view_is) (c.self.invariant ∙ sym (standing_is c.args.event old
    ∙ ap (λ k. k.points) (kept_missing c.args.event old c.in-None.ensures.value)))
