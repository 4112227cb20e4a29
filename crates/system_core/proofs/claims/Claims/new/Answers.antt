use Rattle.std.proofs.Common.{◌∙◌, arith, false, length, List, ℕ, subst, ap}
use Rattle.std.proofs.lemmas.List.{length-replicate}
use Rattle.ground_types.specs.declared.program.Program.{Program}
use Rattle.system_core.specs.Claiming.{AreInOrder}
use Rattle.system_core.proofs.Claimed.{fresh, none_marked}
use Rattle.system_core.proofs.claims.Claims.new.Goals as goal

pub invariant_of-result : goal.invariant_of-result
invariant_of-result c =
    rw (
      c.new.ensures.items,
      c.new-2.ensures.items,
      c.size_of-left.ensures,
      c.as_slice-2.ensures,
      c.deref-3.ensures,
      c.in_ok-worked.ensures,
    )
    (fresh _ _ _ 0 c.requires.sound (omega arith)
    (subst (λ (l : List (List ℕ)). AreInOrder l c.in_ok-ordered.ordered)
    (ap (λ (p : Program). p.layers) c.deref.ensures) c.in_ok-ordered.ensures)
    (length-replicate (length c.as_slice.result.now) false
    ∙ ap length (c.as_slice.ensures ∙ ap (λ (p : Program). p.units) c.deref-2.ensures))
    (none_marked (length c.as_slice.result.now)))
