use Rattle.std.proofs.Common.{◌≡◌, ◌∙◌, ℕ, true, false, List, Bool, Option, length}
use Rattle.std.proofs.Common.{None, sym, ap, ap₂, subst, arith}
use Rattle.std.specs.Arc.{arc_value}
use Rattle.std.specs.Vec.{with_items}
use Rattle.std.specs.Prelude.{replicate}
use Rattle.std.proofs.lemmas.List.{with_items_is, length-replicate}
use Rattle.delay_revise.specs.Revising.{Revising, none_kept}
use Rattle.delay_revise.proofs.GoingOn.{closed_on, none_kept_is}
use Rattle.delay_revise.proofs.reviser.Reviser.close.Goals.{After-clear_counts}
use Rattle.delay_revise.proofs.reviser.Reviser.close.Goals as goal

-- how many counts there are
size_stays : (c : After-clear_counts) → length c.clear_counts.new.counts ≡ c.self.inside.counts.len
size_stays c =
    ap (λ (l : List (Option ℕ)). length l) c.clear_counts.ensures
    ∙ length-replicate (length c.deref_mut.result.now) None
    ∙ ap (λ (l : List (Option ℕ)). length l) c.deref_mut.ensures.value
    ∙ sym c.self.inside.counts.ok.0

-- no unit has a count
no_counts : (c : After-clear_counts)
    → (with_items c.self.inside.counts c.clear_counts.new.counts).items
    ≡ replicate (length (arc_value c.self.inside.program).units) None
no_counts c =
    with_items_is c.self.inside.counts c.clear_counts.new.counts (size_stays c)
    ∙ c.clear_counts.ensures
    ∙ ap (λ (n : ℕ). replicate n None)
    (ap (λ (l : List (Option ℕ)). length l) c.deref_mut.ensures.value
    ∙ c.self.invariant.kept.size)

pub invariant_of-self : goal.invariant_of-self
invariant_of-self c =
    let at = goal.at.invariant_of-self c in
    closed_on _ _ _ c.end_window.new.rows c.settle.new.self _ _ c.self.invariant
    (subst (λ (r : Revising). r.has_chunk ≡ true) (sym c.self.view_is) c.requires.chunk)
    (subst (λ (r : Revising). r.applied ≡ true) (sym c.self.view_is) c.requires.applied)
    (subst (λ (r : Revising). r.layer ≡ length r.program.layers) (sym c.self.view_is)
    c.requires.layers)
    (omega arith)
    c.end_window.ensures
    c.settle.ensures.standing c.settle.ensures.settled (no_counts at.After-clear_counts)

pub returns : goal.returns
returns c =
    let at = goal.at.returns c in
    ap₂ (λ (r : Revising) (kept : List Bool). let after : Revising = record r {
      has_chunk = false;
      applied = false;
      layer = 0;
      kept = kept;
    } in after) c.self.view_is
    (none_kept_is (arc_value c.self.inside.program) _ (no_counts at.After-clear_counts)
    ∙ ap (λ (r : Revising). none_kept r.program) c.self.view_is)
