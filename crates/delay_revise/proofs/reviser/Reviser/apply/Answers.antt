use Rattle.std.proofs.Common.{◌≡◌, ◌∙◌, true, List, length, sym, ap, subst}
use Rattle.ground_types.specs.declared.entries.Entry.{Entry}
use Rattle.ground_types.specs.declared.program.Program.{Program}
use Rattle.delay_revise.specs.Revising.{Revising}
use Rattle.delay_revise.proofs.GoingOn.{placed_by, unbrought, applied_now, brought_by}
use Rattle.delay_revise.proofs.GoingOn.{opens_by}
use Rattle.delay_revise.proofs.reviser.Reviser.apply.Goals as goal

pub invariant_of-self : goal.invariant_of-self
invariant_of-self c =
    placed_by _ _ c.deref.result.now c.deref-2.result.now c.place_all.new.placed
    c.place_all.new.ahead c.self.invariant
    (subst (λ (r : Revising). r.has_chunk ≡ true) (sym c.self.view_is) c.requires.chunk)
    c.if-self.false c.deref.ensures c.deref-2.ensures.value c.place_all.ensures.most
    c.place_all.ensures.told

pub invariant_of-self-in_err-opening : goal.invariant_of-self-in_err-opening
invariant_of-self-in_err-opening c =
    placed_by _ _ c.deref.result.now c.deref-2.result.now c.place_all.new.placed
    c.place_all.new.ahead c.self.invariant
    (subst (λ (r : Revising). r.has_chunk ≡ true) (sym c.self.view_is) c.requires.chunk)
    c.if-self.false c.deref.ensures c.deref-2.ensures.value c.place_all.ensures.most
    c.place_all.ensures.told

pub bring-requires-clause-size : goal.bring-requires-clause-size
bring-requires-clause-size c =
    let placed = placed_by _ _ c.deref.result.now c.deref-2.result.now c.place_all.new.placed
    c.place_all.new.ahead c.self.invariant
    (subst (λ (r : Revising). r.has_chunk ≡ true) (sym c.self.view_is) c.requires.chunk)
    c.if-self.false c.deref.ensures c.deref-2.ensures.value c.place_all.ensures.most
    c.place_all.ensures.told in
    placed.told.size ∙ ap (λ (p : Program). p.plan.queries) (sym c.deref-4.ensures)

pub invariant_of-self-in_err-bring : goal.invariant_of-self-in_err-bring
invariant_of-self-in_err-bring c =
    unbrought _ _ c.bring.new.store c.bring.new.ahead
    (placed_by _ _ c.deref.result.now c.deref-2.result.now c.place_all.new.placed
    c.place_all.new.ahead c.self.invariant
    (subst (λ (r : Revising). r.has_chunk ≡ true) (sym c.self.view_is) c.requires.chunk)
    c.if-self.false c.deref.ensures c.deref-2.ensures.value c.place_all.ensures.most
    c.place_all.ensures.told)
    c.in_err-bring.ensures.refused c.in_err-bring.ensures.refused_ahead

pub invariant_of-self-2 : goal.invariant_of-self-2
invariant_of-self-2 c =
    let opened = subst (λ (r : Revising). r.has_chunk ≡ true) (sym c.self.view_is)
    c.requires.chunk in
    let placed = placed_by _ _ c.deref.result.now c.deref-2.result.now c.place_all.new.placed
    c.place_all.new.ahead c.self.invariant opened
    c.if-self.false c.deref.ensures c.deref-2.ensures.value c.place_all.ensures.most
    c.place_all.ensures.told in
    applied_now _ _ c.bring.new.store c.bring.new.ahead c.in_ok-opening.opening.items placed opened
    (c.in_ok-place_all.ensures.all
    ∙ ap (λ (h : List Entry). length h) c.deref-2.ensures.value)
    (brought_by c.deref-4.result.now _ _ _ _ _ _ c.deref-4.ensures (record {
      told = c.in_ok-bring.ensures.told;
      next = c.in_ok-bring.ensures.next;
      events = c.in_ok-bring.ensures.events;
      stood = c.in_ok-bring.ensures.stood;
    }))
    (opens_by c.deref-3.result.now _ _ _ c.in_ok-opening.opening.items c.deref-3.ensures
    c.in_ok-opening.ensures)
