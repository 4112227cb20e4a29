use Rattle.std.proofs.Common.{not, ◌&&◌, ◌==◌, Some, IsSome, refl, subst, ap, sym, ◌∙◌}
use Rattle.std.proofs.lemmas.Result.{on_ok_weaker, on_err_weaker, IfOk-weaker}
use Rattle.span_algebra.specs.Normal.{has}
use Rattle.event_store.proofs.Lookups.{kept_found, kept_missing, standing_is, stood_at}
use Rattle.event_store.proofs.Lookups.{written_again, never_stood, stands_no_more, stood_still}
use Rattle.event_store.proofs.store.EventStore.revoke.Goals as goal

pub returns-in-Some : goal.returns-in-Some
returns-in-Some c =
    let old = c.self.inside.by_event.entries in
    let found = kept_found c.args.event old c.in-Some.kept.now c.in-Some.ensures.value in
    let follows = c.get_mut.follows.holds c.revoke.new.self in
    let put = (follows.3 (subst IsSome c.in-Some.ensures.value refl)).0 in
    rw (← c.self.view_is) (record {
      changed = IfOk-weaker c.revoke.result _ _ (λ b is. is ∙ ap (λ p. has p c.args.at)
          (sym (standing_is c.args.event old ∙ ap (λ k. k.points) found)))
          c.revoke.ensures.changed;
      standing = on_ok_weaker c.revoke.result (λ removed. stands_no_more c.args.event old
          (c.get_mut.follows.lender c.revoke.new.self).entries c.revoke.new.self put c.args.at
          (λ t. removed t ∙ ap (λ k. has k.points t && not (t == c.args.at)) (sym found)))
          c.revoke.ensures.standing;
      settled = on_ok_weaker c.revoke.result (λ same. stood_still c.args.event old
          (c.get_mut.follows.lender c.revoke.new.self).entries c.revoke.new.self put
          (λ t. same t ∙ ap (λ k. stood_at k t) (sym found))) c.revoke.ensures.settled;
      refused = on_err_weaker c.revoke.result (λ same. follows.0 ∙ written_again c.args.event old
          c.revoke.new.self (ap Some same ∙ c.in-Some.ensures.value)) c.revoke.ensures.refused;
    })

pub returns-clause-changed : goal.returns-clause-changed
returns-clause-changed c =
    let old = c.self.inside.by_event.entries in
    rw (← c.self.view_is) (ap (λ p. has p c.args.at) (sym (standing_is c.args.event old
    ∙ ap (λ k. k.points) (kept_missing c.args.event old c.in_default.ensures.value))))

pub returns-clause-standing : goal.returns-clause-standing
returns-clause-standing c =
    let old = c.self.inside.by_event.entries in
    rw (← c.self.view_is) (rw c.get_mut.follows.holds-at-none (never_stood c.args.event old
    c.args.at (kept_missing c.args.event old c.in_default.ensures.value)))
