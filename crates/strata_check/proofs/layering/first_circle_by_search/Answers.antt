use Rattle.std.proofs.Common.{◌<◌, MatchBool, below_more, subst, arith}
use Rattle.strata_check.specs.Rows.{Leads}
use Rattle.strata_check.proofs.layering.first_circle_by_search.Goals as goal

pub loop-place-preserved : goal.loop-place-preserved
loop-place-preserved c =
    let rows = c.args.rows.now in
    let here : Leads rows c.loop-place.place c.loop-place.place
    → ⊥ = subst (λ b. MatchBool b (Leads rows c.loop-place.place c.loop-place.place)
    (Leads rows c.loop-place.place c.loop-place.place → ⊥)) c.if-branch.false
    c.in_ok-leads_to_itself.ensures in
    below_more (λ k. Leads rows k k → ⊥) _ c.loop-place.invariant here

pub unreachable-requires : goal.unreachable-requires
unreachable-requires c =
    let circle = c.requires.circle in
    let before : circle.0 < c.loop-place.place = omega (arith, circle.1) in
    c.loop-place.invariant circle.0 before circle.2
