-- A plan that was accepted is sound.
use Rattle.std.proofs.Common.{◌≡◌, ℕ, ◌*◌, ◌≤◌, nat_le, Bool, true, false, true≢false, ◌&&◌, Option}
use Rattle.std.proofs.Common.{Some, None, refl, sym, ap, ◌∙◌, arith, if◌then◌else◌}
use Rattle.std.proofs.lemmas.Bool.Decides.{nat_tests}
use Rattle.std.proofs.Math.Nat.{mul-le-mul_left, mul-le-mul_right}
use Rattle.ground_types.specs.declared.plan.Plan.{Plan}
use Rattle.ground_types.specs.Windows.{IsSoundPlan}
use Rattle.decl_known.specs.Sound.{is_allowed}
use Rattle.domain_decl.specs.Plans.{plan_by}

if_some : (b : Bool) (plan given : Plan) → (if b then Some plan else None) ≡ Some given
    → (b ≡ true) × (plan ≡ given)
if_some true plan given h = (refl, cc)
if_some false plan given h = absurd (cc)

pub is_allowed-plan_by : (window step from queries : Option ℕ) (plan : Plan)
    → plan_by window step from queries ≡ Some plan → is_allowed plan ≡ true
is_allowed-plan_by (Some window) (Some step) (Some from) (Some queries) plan h =
    let made : Plan = record { window = window; step = step; from = from; queries = queries } in
    let e = if_some (is_allowed made) made plan h in
    ap is_allowed (sym e.1) ∙ e.0
is_allowed-plan_by (Some window) (Some step) (Some from) None plan h = absurd (cc)
is_allowed-plan_by (Some window) (Some step) None queries plan h = absurd (cc)
is_allowed-plan_by (Some window) None from queries plan h = absurd (cc)
is_allowed-plan_by None step from queries plan h = absurd (cc)

six : (a b c d e f : Bool) → (a && b && c && d && e && f) ≡ true → (a ≡ true) × (b ≡ true)
    × (c ≡ true) × (d ≡ true) × (e ≡ true) × (f ≡ true)
six true true true true true true h = (refl, refl, refl, refl, refl, refl)
six true true true true true false h = absurd (true≢false (sym h))
six true true true true false f h = absurd (true≢false (sym h))
six true true true false e f h = absurd (true≢false (sym h))
six true true false d e f h = absurd (true≢false (sym h))
six true false c d e f h = absurd (true≢false (sym h))
six false b c d e f h = absurd (true≢false (sym h))

below : (a b : ℕ) → nat_le a b ≡ true → a ≤ b
below a b h = grind (arith, nat_tests)

product : (a b c d : ℕ) → a ≤ c → b ≤ d → a * b ≤ c * d
product a b c d h k = let one : a * b ≤ c * b = mul-le-mul_right b h in let two : c * b ≤ c * d =
    mul-le-mul_left c k in omega arith

pub sound_plan : (plan : Plan) → is_allowed plan ≡ true → IsSoundPlan plan × (1 ≤ plan.queries)
sound_plan plan h =
    let tests = six (nat_le 1 plan.step) (nat_le plan.step plan.window)
    (nat_le plan.window 1000000000000) (nat_le plan.from 4000000000000000)
    (nat_le 1 plan.queries) (nat_le plan.queries 1024) h in
    let step : plan.step ≤ plan.window = below _ _ tests.1 in
    let window : plan.window ≤ 1000000000000 = below _ _ tests.2 in
    let from : plan.from ≤ 4000000000000000 = below _ _ tests.3 in
    let queries : plan.queries ≤ 1024 = below _ _ tests.5 in
    let short : plan.step ≤ 1000000000000 = omega arith in
    let most : plan.queries * plan.step ≤ 1024 * 1000000000000 = product plan.queries plan.step
    1024 1000000000000 queries short in (
      record {
        step_some = below _ _ tests.0;
        step_most = step;
        window_most = window;
        queries_most =
            queries;
        end_most = omega arith;
      },
      below _ _ tests.4,
    )
