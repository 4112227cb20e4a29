use Rattle.std.proofs.Common.{◌≡◌, true, false, sym, subst}
use Rattle.std.specs.List.{list_all}
use Rattle.ground_types.specs.Members.{contains}
use Rattle.system_core.specs.Core.{has_layer}
use Rattle.system_core.specs.Claiming.{Claiming}
use Rattle.system_core.proofs.Claimed.{all_done, none_left}
use Rattle.system_core.proofs.claims.Claims.restart.Goals as goal

pub go_to-requires-clause-none : goal.go_to-requires-clause-none
go_to-requires-clause-none c =
    subst (λ (v : Claiming). list_all (contains v.revision.finished) v.revision.claimed ≡ true)
    c.self.view_is
    (all_done _ _ _ _ c.self.invariant (none_left _ _ _ _ c.self.invariant
    (subst (λ (v : Claiming). has_layer v.program v.revision ≡ false) (sym c.self.view_is)
    c.requires.turned)))
