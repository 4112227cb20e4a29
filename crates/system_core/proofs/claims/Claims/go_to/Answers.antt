use Rattle.std.proofs.Common.{◌≡◌, ◌≤◌, true, sym, subst, length}
use Rattle.std.specs.List.{list_all}
use Rattle.ground_types.specs.Members.{contains}
use Rattle.system_core.specs.Claiming.{Claiming}
use Rattle.system_core.proofs.Claimed.{gone_on}
use Rattle.system_core.proofs.claims.Claims.go_to.Goals as goal

pub invariant_of-self : goal.invariant_of-self
invariant_of-self c =
    rw (
      c.clear.ensures.items,
      c.clear-2.ensures.items,
      c.size_of-self-inside.ensures,
      c.as_slice.ensures,
      c.deref.ensures,
    )
    (gone_on _ _ _ _ c.args.layer c.self.invariant
    (subst (λ (v : Claiming). c.args.layer ≤ length v.program.layers) (sym c.self.view_is)
    c.requires.within)
    (subst (λ (v : Claiming). list_all (contains v.revision.finished) v.revision.claimed ≡ true)
    (sym c.self.view_is) c.requires.none))
