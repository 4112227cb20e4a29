use Rattle.std.proofs.Common.{◌≡◌, ◌∙◌, arith, ap₂, List, ℕ, Some, None, slice_get, sym}
use Rattle.std.proofs.Common.{subst}
use Rattle.system_core.specs.Core.{units_of, lowest_unclaimed}
use Rattle.system_core.specs.Claiming.{Claiming}
use Rattle.system_core.proofs.Claimed.{next_is, claimed_on, marked}
use Rattle.system_core.proofs.claims.Claims.claim.Goals as goal

pub returns-in_default-clause-unit : goal.returns-in_default-clause-unit
returns-in_default-clause-unit c =
    subst (λ (v : Claiming). None ≡ lowest_unclaimed v.program v.revision) c.self.view_is
    (next_is _ _ _ _ c.self.invariant None (sym c.in_default.is ∙ (c.unit_at-next.ensures
    ∙ ap₂ (λ (l : List (List ℕ)) (n : ℕ). slice_get (units_of (slice_get l c.self.inside.layer)) n)
    c.as_slice.ensures (c.len.ensures ∙ c.self.inside.claimed.ok.0))))

pub index_mut-requires : goal.index_mut-requires
index_mut-requires c =
    let within = marked _ _ _ _ c.self.invariant c.in-Some.unit (sym (c.unit_at-next.ensures
    ∙ ap₂ (λ (l : List (List ℕ)) (n : ℕ). slice_get (units_of (slice_get l c.self.inside.layer)) n)
    c.as_slice.ensures (c.len.ensures ∙ c.self.inside.claimed.ok.0)) ∙ c.in-Some.is) in
    omega (arith, within, c.self.inside.worked.ok.0)

pub invariant_of-self-2 : goal.invariant_of-self-2
invariant_of-self-2 c =
    rw c.in_ok-push.ensures.items
    (claimed_on _ _ _ _ c.self.invariant c.in-Some.unit (sym (c.unit_at-next.ensures
    ∙ ap₂ (λ (l : List (List ℕ)) (n : ℕ). slice_get (units_of (slice_get l c.self.inside.layer)) n)
    c.as_slice.ensures (c.len.ensures ∙ c.self.inside.claimed.ok.0)) ∙ c.in-Some.is))

pub returns-clause-unit : goal.returns-clause-unit
returns-clause-unit c =
    subst (λ (v : Claiming). Some c.in-Some.unit ≡ lowest_unclaimed v.program v.revision)
    c.self.view_is
    (next_is _ _ _ _ c.self.invariant (Some c.in-Some.unit) (sym c.in-Some.is ∙ (c.unit_at-next.ensures
    ∙ ap₂ (λ (l : List (List ℕ)) (n : ℕ). slice_get (units_of (slice_get l c.self.inside.layer)) n)
    c.as_slice.ensures (c.len.ensures ∙ c.self.inside.claimed.ok.0))))
