use Rattle.std.proofs.Common.{not, ◌||◌, ◌==◌, Some, IsSome, refl, subst, ap, sym, ◌∙◌}
use Rattle.std.proofs.lemmas.Result.{on_ok_weaker, on_err_weaker, IfOk-weaker}
use Rattle.span_algebra.specs.Normal.{has}
use Rattle.event_store.proofs.Lookups.{kept_found, kept_missing, standing_is, stood_at}
use Rattle.event_store.proofs.Lookups.{written_again, stands_too, stood_still}
use Rattle.event_store.proofs.store.EventStore.add.Goals as goal

pub returns-in-Some : goal.returns-in-Some
returns-in-Some c =
    let old = c.self.inside.by_event.entries in
    let found = kept_found c.args.event old c.in-Some.kept.now c.in-Some.ensures.value in
    let follows = c.get_mut.follows.holds c.add.new.self in
    let put = (follows.3 (subst IsSome c.in-Some.ensures.value refl)).0 in
    rw (← c.self.view_is) (record {
      changed = IfOk-weaker c.add.result _ _ (λ b is. is ∙ ap (λ p. not (has p c.args.at))
          (sym (standing_is c.args.event old ∙ ap (λ k. k.points) found))) c.add.ensures.changed;
      standing = on_ok_weaker c.add.result (λ added. stands_too c.args.event old
          (c.get_mut.follows.lender c.add.new.self).entries c.add.new.self put c.args.at
          (λ t. added t ∙ ap (λ k. has k.points t || (t == c.args.at)) (sym found)))
          c.add.ensures.standing;
      settled = on_ok_weaker c.add.result (λ same. stood_still c.args.event old
          (c.get_mut.follows.lender c.add.new.self).entries c.add.new.self put
          (λ t. same t ∙ ap (λ k. stood_at k t) (sym found))) c.add.ensures.settled;
      refused = on_err_weaker c.add.result (λ same. follows.0 ∙ written_again c.args.event old
          c.add.new.self (ap Some same ∙ c.in-Some.ensures.value)) c.add.ensures.refused;
    })

pub returns : goal.returns
returns c =
    let old = c.self.inside.by_event.entries in
    let missing = kept_missing c.args.event old c.in_default.ensures.value in
    let put = rw c.get_mut.follows.holds-at-none at c.in_ok-insert.ensures.updates.0 in
    rw (← c.self.view_is) (record {
      changed = ap (λ p. not (has p c.args.at))
          (sym (standing_is c.args.event old ∙ ap (λ k. k.points) missing));
      standing = stands_too c.args.event old c.insert.new.self.entries c.add-2.new.self put
          c.args.at (λ t. c.in_ok-add.ensures.standing t
          ∙ ap (λ k. has k.points t || (t == c.args.at)) (c.new-kept.ensures ∙ sym missing));
      settled = stood_still c.args.event old c.insert.new.self.entries c.add-2.new.self put
          (λ t. c.in_ok-add.ensures.settled t
          ∙ ap (λ k. stood_at k t) (c.new-kept.ensures ∙ sym missing));
      refused = tt;
    })
