use Rattle.std.proofs.Common.{◌≡◌, ◌<◌, ◌≤◌, length, ap, arith, List, ◌∙◌, ◌++◌, ◌∷◌, [], ℕ, sym}
use Rattle.std.proofs.Common.{subst}
use Rattle.std.specs.Vec.{vec_capacity}
use Rattle.ground_types.specs.History.{reply_to}
use Rattle.ground_types.specs.declared.entries.Entry.{Entry}
use Rattle.ground_types.specs.declared.entries.Entry.TheVariants.{Fed}
use Rattle.admit_core.specs.Index.{IsIndex}
use Rattle.admit_core.specs.Log.{Log}
use Rattle.admit_core.specs.Held.{IsHeld}
use Rattle.admit_core.proofs.Grows.{held_feed, lent}
use Rattle.admit_core.proofs.state.AdmitState.admit.Goals as goal

pub invariant_of-self : goal.invariant_of-self
invariant_of-self c =
    let s = c.self.inside in
    let args = c.args in
    let items = c.push.new.self.items in
    let room = vec_capacity c.push.new.self in
    let few : length s.history.items < s.cap =
    omega (arith, c.self.invariant.kept.few, c.if-len-self.false, c.len.ensures, s.history.ok) in
    let roomy : s.cap ≤ room = omega (arith, c.self.invariant.roomy, c.push.ensures.capacity) in
    let same_events = ap (λ (l : Log). l.events) c.self.view_is in
    let known : args.event < s.events = omega (arith, c.requires.event, same_events) in
    let after = c.answer-reply.new.slots in
    let same : length after ≡ length s.slots.items =
    c.answer-reply.auto.slots ∙ ap length c.deref_mut.ensures.value in
    let log : Log = record { plan = s.plan; events = s.events; cap = s.cap; history = items } in
    subst (λ (later : List ℕ). IsHeld log c.count_feed.new.self later room)
    (sym (lent s.slots.len after s.slots.items same (sym s.slots.ok.0)))
    (held_feed _ _ _ _ c.self.invariant few room roomy
    args.feeder args.act args.event args.at c.answer-reply.result _ _ after
    c.requires.feeder.0 c.requires.feeder.1 known
    (c.answer-reply.ensures.reply
    ∙ ap (λ (h : List Entry). reply_to s.plan h args.act args.event args.at)
    c.deref.ensures.value)
    c.in-Ok.ensures.items c.count_feed.ensures
    (subst (λ (h : List Entry). IsIndex (length after) after
    (h ++ Fed args.feeder args.act args.event args.at c.answer-reply.result ∷ []))
    c.deref.ensures.value (c.answer-reply.ensures.index args.feeder))
    same)
