use Rattle.std.proofs.Common.{◌∷◌, [], ap, ◌∙◌}
use Rattle.std.specs.Map.Iter.{deref_pair}
use Rattle.std.proofs.lemmas.List.{map-append}
use Rattle.ground_types.specs.Touched.{differs}
use Rattle.span_algebra.specs.Normal.{has}
use Rattle.event_store.specs.Standing.{standing}
use Rattle.event_store.proofs.Merged.{turned_more}
use Rattle.event_store.proofs.store.EventStore.turned_marks.Goals as goal

pub loop-event-preserved : goal.loop-event-preserved
loop-event-preserved c =
    turned_more c.args.self.now _ _ _ _ c.in-Some.event.now c.in-Some.kept.now
    c.in_ok-marks_of.field-0
    (map-append deref_pair c.loop-event.yielded ((c.in-Some.event, c.in-Some.kept) ∷ []))
    c.in_ok-push.ensures.items c.loop-event.invariant
    (record {
      standing = λ t. c.in_ok-marks_of.ensures.standing t
          ∙ ap (λ p. differs (has (standing c.args.self.now c.in-Some.event.now) t) (has p t))
          (ap (λ k. k.points) c.kept.view_is);
      settled = c.in_ok-marks_of.ensures.settled;
    })
