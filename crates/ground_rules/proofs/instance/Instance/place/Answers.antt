use Rattle.std.proofs.Common.{◌≡◌, ℕ, ◌+◌, ◌<◌, ◌≤◌, length, slice_get, option_map, Some, ap, ap₂}
use Rattle.std.proofs.Common.{◌∙◌, sym, subst, refl, fold, take}
use Rattle.std.proofs.lemmas.List.{length_push}
use Rattle.std.proofs.lemmas.Iterator.{YieldsList-from_slice, YieldsList-from_zip}
use Rattle.std.proofs.lemmas.Iterator.Consumers.{YieldsList-turn, YieldsList-end}
use Rattle.ground_types.specs.Sound.{entity_count}
use Rattle.ground_rules.specs.LentInstances.{instance_of}
use Rattle.ground_names.specs.Counted.{capped, ranked}
use Rattle.ground_rules.proofs.ArgumentRanks.{the_pairs, too_few, one_more_ranked, none_ranked}
use Rattle.ground_rules.proofs.ArgumentRanks.{all_ranked}
use Rattle.ground_rules.proofs.instance.Instance.place.Goals.{After-next_place}
use Rattle.ground_rules.proofs.instance.Instance.place.Goals as goal

-- the next place is that of one argument more
next_ranked : (c : After-next_place) (more : ℕ) → more ≡ length c.loop-term.yielded + 1
    → c.next_place.result ≡ option_map capped (fold ranked (Some 0) (take more
    (the_pairs c.args.self.now.clause.now.known.now.domains.now (instance_of c.args.self.now)
    c.args.name.now c.args.terms.now)))
next_ranked c more one_more =
    let self = c.args.self.now in
    let at = YieldsList-turn (YieldsList-from_zip {s = c.into_iter-term-iterator.result}
    (YieldsList-from_slice c.args.terms.now cc) (YieldsList-from_slice c.args.name.now.args cc))
    c.loop-term.yielded c.loop-term.term-iterator c.loop-term.yielded_by c.next.result
    c.next.new.self (c.in-Some.term, c.in-Some.domain) c.in-Some.is c.next.ensures.steps in
    let is = c.next_place.ensures
    ∙ ap₂ (λ size number. option_map capped (ranked (Some c.loop-term.place) (size, number)))
    (c.entity_count-size.ensures ∙ ap (λ l. entity_count (slice_get l c.in-Some.domain.now))
    c.known.ensures.domains) c.term.ensures in
    one_more_ranked self.clause.now.known.now.domains.now (instance_of self) c.args.name.now
    c.args.terms.now (length c.loop-term.yielded) more (c.in-Some.term.now, c.in-Some.domain.now)
    c.loop-term.place c.next_place.result at one_more is c.loop-term.invariant

pub returns-then-terms-as_slice : goal.returns-then-terms-as_slice
returns-then-terms-as_slice c =
    let self = c.args.self.now in
    too_few self.clause.now.known.now.domains.now (instance_of self) c.args.name.now
    c.args.terms.now
    (subst (λ l. length c.args.terms.now < length l) c.as_slice.ensures c.if-terms-as_slice.true)

pub returns-in_err-place : goal.returns-in_err-place
returns-in_err-place c =
    let self = c.args.self.now in
    c.from_residual.ensures
    ∙ none_ranked self.clause.now.known.now.domains.now (instance_of self) c.args.name.now
    c.args.terms.now _
    (subst (λ l. length l ≤ length c.args.terms.now) c.as_slice.ensures c.if-terms-as_slice.false)
    (sym c.in_err-place.was ∙ next_ranked (goal.at.returns-in_err-place c).After-next_place _
    refl)

pub returns : goal.returns
returns c =
    let self = c.args.self.now in
    let end = YieldsList-end (YieldsList-from_zip {s = c.into_iter-term-iterator.result}
    (YieldsList-from_slice c.args.terms.now cc) (YieldsList-from_slice c.args.name.now.args cc))
    c.loop-term.yielded c.loop-term.term-iterator c.loop-term.yielded_by c.next.result
    c.next.new.self c.in-None.is c.next.ensures.steps in
    all_ranked self.clause.now.known.now.domains.now (instance_of self) c.args.name.now
    c.args.terms.now (length c.loop-term.yielded) c.loop-term.place
    (subst (λ l. length l ≤ length c.args.terms.now) c.as_slice.ensures c.if-terms-as_slice.false)
    end.1 c.loop-term.invariant

pub loop-term-preserved : goal.loop-term-preserved
loop-term-preserved c =
    sym c.in_ok-place.was ∙ next_ranked (goal.at.loop-term-preserved c).After-next_place _
    (length_push c.loop-term.yielded (c.in-Some.term, c.in-Some.domain))
