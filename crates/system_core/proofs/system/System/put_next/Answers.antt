use Rattle.std.proofs.Common.{◌≡◌, ◌∙◌, sym, subst, ap, option_map}
use Rattle.std.specs.Arc.{arc_value}
use Rattle.query_ask.specs.Right.{Parts}
use Rattle.system_core.specs.Core.{Core, publish, published}
use Rattle.system_core.specs.Holding.{IsNext}
use Rattle.system_core.proofs.Holdings.{follows, holds_put, holds_made, due_now, past_from}
use Rattle.system_core.proofs.Holdings.{put_is}
use Rattle.system_core.proofs.system.System.put_next.Goals as goal

pub invariant_of-self-in-Ok-1 : goal.invariant_of-self-in-Ok-1
invariant_of-self-in-Ok-1 c =
    let due = due_now _ c.self.inside.claims.revision _
    (subst (λ (v : Core). publish v v.revision ≡ published v) (sym c.self.view_is)
    c.requires.due) in
    let next = subst (λ m. IsNext c.self.inside.reviser (option_map arc_value m)
    c.publication_of.new.reviser (arc_value c.in_ok-publication.publication))
    c.take.ensures.value c.in_ok-publication.ensures.next in
    rw (c.in-Ok.ensures.added, c.restart.ensures, c.take.ensures.after)
    (holds_put _ _ _ _ _ _ c.self.invariant c.publication_of.new.reviser
    (arc_value c.in_ok-publication.publication)
    (follows _ _ _ _ _ _ c.self.invariant c.publication_of.new.reviser
    (arc_value c.in_ok-publication.publication) due.is next))

pub invariant_of-self-in-Err : goal.invariant_of-self-in-Err
invariant_of-self-in-Err c =
    let due = due_now _ c.self.inside.claims.revision _
    (subst (λ (v : Core). publish v v.revision ≡ published v) (sym c.self.view_is)
    c.requires.due) in
    let next = subst (λ m. IsNext c.self.inside.reviser (option_map arc_value m)
    c.publication_of.new.reviser (arc_value c.in_ok-publication.publication))
    c.take.ensures.value c.in_ok-publication.ensures.next in
    rw c.in-Err.ensures.refused
    (holds_made _ _ _ _ _ _ c.self.invariant c.publication_of.new.reviser
    (arc_value c.in_ok-publication.publication)
    (follows _ _ _ _ _ _ c.self.invariant c.publication_of.new.reviser
    (arc_value c.in_ok-publication.publication) due.is next)
    (past_from c.self.inside.claims.program c.self.inside.claims.revision due.turned c.self.invariant.within))

pub returns-in-Ok-clause-ok : goal.returns-in-Ok-clause-ok
returns-in-Ok-clause-ok c =
    let due = due_now _ c.self.inside.claims.revision _
    (subst (λ (v : Core). publish v v.revision ≡ published v) (sym c.self.view_is)
    c.requires.due) in
    let next = subst (λ m. IsNext c.self.inside.reviser (option_map arc_value m)
    c.publication_of.new.reviser (arc_value c.in_ok-publication.publication))
    c.take.ensures.value c.in_ok-publication.ensures.next in
    rw (← c.self.view_is)
    (put_is _ _ _ _ _ _ c.self.invariant c.publication_of.new.reviser
    (arc_value c.in_ok-publication.publication)
    (follows _ _ _ _ _ _ c.self.invariant c.publication_of.new.reviser
    (arc_value c.in_ok-publication.publication) due.is next) c.restart.new.self c.put.new.self _
    c.number.result c.restart.ensures c.in-Ok.ensures.added
    (ap (option_map arc_value) c.take.ensures.after)
    (c.number.ensures.number ∙ ap (λ (p : Parts). p.number) c.deref.ensures))
