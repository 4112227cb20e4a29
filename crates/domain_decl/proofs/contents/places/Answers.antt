use Rattle.std.proofs.Common.{◌∙◌, ap}
use Rattle.ground_types.specs.Words.{place_in}
use Rattle.decl_known.proofs.Gathering.{filter_map-more, grown, kept}
use Rattle.domain_decl.proofs.contents.places.Goals.{in-Some+in_ok-push, in_default}
use Rattle.domain_decl.proofs.contents.places.Goals as goal

pub loop-arg-preserved : goal.loop-arg-preserved
loop-arg-preserved c =
    let next = filter_map-more (place_in c.args.domains.now) c.args.args.now c.loop-arg.arg-index
    c.arg-item.result c.loop-arg-test.true c.arg-item.is in
    let given = c.place.ensures ∙ ap (place_in c.args.domains.now)
    (c.as_bytes.ensures.value ∙ c.as_str.ensures) in
    elim c.match-place.branch [
      | in-Some+in_ok-push w ↦ grown _ _ _ c.place.result next given c.loop-arg.places.items
          c.loop-arg.invariant w.in-Some.place
          c.match-place.places.items w.in-Some.is (ap (λ v. v.items) w.places-is
          ∙ w.in_ok-push.ensures.items)
      | in_default w ↦ ap (λ v. v.items) w.places-is ∙ kept _ _ _ c.place.result next given
          c.loop-arg.places.items c.loop-arg.invariant w.in_default.is
    ]
