use Rattle.std.proofs.Common.{sym, ap, ◌∙◌}
use Rattle.span_algebra.specs.Normal.{has}
use Rattle.event_store.proofs.Lookups.{kept_found, kept_missing, changed_is}
use Rattle.event_store.proofs.Turning.{differs_again}
use Rattle.event_store.specs.Standing.{standing, changed}
use Rattle.event_store.proofs.store.EventStore.changed.Goals as goal

pub returns-in-Some : goal.returns-in-Some
returns-in-Some c =
    let old = c.self.inside.by_event.entries in
    let is = ap (λ k. k.changed) c.kept.view_is ∙ sym (changed_is c.args.event old
    ∙ ap (λ k. k.changed) (kept_found c.args.event old c.in-Some.kept.now
    c.in-Some.ensures.value)) in
    rw (← c.self.view_is) (λ t. ap (λ p. has p t) is
    ∙ differs_again (has (standing old c.args.event) t) (has (changed old c.args.event) t))

pub returns-in-None : goal.returns-in-None
returns-in-None c =
    let old = c.self.inside.by_event.entries in
    let is = c.self.invariant ∙ sym (changed_is c.args.event old
    ∙ ap (λ k. k.changed) (kept_missing c.args.event old c.in-None.ensures.value)) in
    rw (← c.self.view_is) (λ t. ap (λ p. has p t) is
    ∙ differs_again (has (standing old c.args.event) t) (has (changed old c.args.event) t))
