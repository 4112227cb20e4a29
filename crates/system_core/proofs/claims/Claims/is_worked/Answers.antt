use Rattle.std.proofs.Common.{◌≡◌, ◌∙◌, true, false, sym, subst, ap, Bool, List}
use Rattle.std.specs.List.{slice_index_or}
use Rattle.ground_types.specs.Members.{contains}
use Rattle.system_core.specs.Core.{layer_units}
use Rattle.system_core.specs.Claiming.{Claiming}
use Rattle.system_core.proofs.Claimed.{worked_units}
use Rattle.system_core.proofs.claims.Claims.is_worked.Goals as goal

pub returns-in-Some-clause-within : goal.returns-in-Some-clause-within
returns-in-Some-clause-within c busy =
    subst (λ (v : Claiming). contains (layer_units v.program v.revision.layer) c.args.unit ≡ true)
    c.self.view_is
    (worked_units _ _ _ _ c.args.unit c.self.invariant
    (sym (c.self.invariant.worked_are c.args.unit)
    ∙ ap (λ (l : List Bool). slice_index_or l c.args.unit false) (sym c.deref.ensures.value)
    ∙ sym (c.in-Some.ensures.lookup.3.1 false) ∙ busy))
