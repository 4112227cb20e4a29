use Rattle.std.proofs.Common.{◌≢◌, ◌∙◌, ℕ, List, true, length, drop, sym, ap}
use Rattle.ground_types.specs.History.{seals}
use Rattle.ground_types.specs.declared.entries.Entry.{Entry}
use Rattle.ground_types.specs.declared.plan.Plan.{Plan}
use Rattle.admit_core.specs.Log.{Log}
use Rattle.delay_revise.specs.Revising.{Revising}
use Rattle.system_core.proofs.Holdings.{holds_sealed}
use Rattle.system_core.proofs.Sealing.{may_take, all_taken, whole_tail}
use Rattle.system_core.proofs.system.System.seal.Goals as goal

pub take_chunk-requires : goal.take_chunk-requires
take_chunk-requires c =
    record {
      chunk = may_take _ _ _ _ _ _ c.self.invariant (sym c.is_open.ensures ∙ c.if-is_open.false)
          c.in-Ok.number c.history-history.result.now _
          (c.history-history.ensures.list ∙ ap (λ (l : Log). l.history) c.in-Ok.ensures.ok)
          (whole_tail c.history-history.result.now c.taken-taken.result
          ∙ ap (λ (n : ℕ). drop n c.history-history.result.now) c.taken-taken.ensures)
          c.seal.new.self c.in-Ok.ensures.ok c.history-history.ensures.kept;
    }

pub invariant_of-self : goal.invariant_of-self
invariant_of-self c =
    let shut = sym c.is_open.ensures ∙ c.if-is_open.false in
    let roomy : length c.self.inside.log.history ≢ c.self.inside.log.cap =
    λ full. (let never = c.in-Ok.ensures.full.1 full in cc) in
    let more : seals c.self.inside.log.history ≢ c.self.inside.claims.program.plan.queries =
    λ all. (let never = c.in-Ok.ensures.no_more.1 (
      roomy,
      all ∙ sym (ap (λ (p : Plan). p.queries) c.self.invariant.plan),
    ) in cc) in
    rw c.in-Ok.ensures.ok
    (holds_sealed _ _ _ _ _ _ c.self.invariant c.take_chunk.new.self c.in-Ok.number shut
    (c.take_chunk.ensures
    ∙ ap (λ (t : List Entry). let n : Revising = record c.self.inside.reviser {
      taken = t;
      has_chunk = true;
    } in n)
    (all_taken _ _ _ _ _ _ c.self.invariant shut c.in-Ok.number c.history-history.result.now _
    (c.history-history.ensures.list ∙ ap (λ (l : Log). l.history) c.in-Ok.ensures.ok)
    (whole_tail c.history-history.result.now c.taken-taken.result
    ∙ ap (λ (n : ℕ). drop n c.history-history.result.now) c.taken-taken.ensures))) more)
