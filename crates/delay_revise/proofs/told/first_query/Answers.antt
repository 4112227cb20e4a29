use Rattle.std.proofs.Common.{◌≤◌, ◌<◌, ◌+◌, ◌-◌, ◌*◌, arith}
use Rattle.ground_types.specs.Windows.{right}
use Rattle.delay_revise.proofs.Telling.{due_beyond, none_beyond}
use Rattle.delay_revise.proofs.told.first_query.Goals as goal

pub returns-then-beyond-saturating_sub-clause-some :
    goal.returns-then-beyond-saturating_sub-clause-some
returns-then-beyond-saturating_sub-clause-some c =
    let plan = c.args.plan.now in
    let steps = c.whole_steps-beyond.result in
    let after : right plan c.args.k < c.args.at = omega arith in
    let down : steps * plan.step ≤ c.args.at - right plan c.args.k - 1 = omega (
      arith,
      c.whole_steps-beyond.ensures.down,
    ) in
    let up : c.args.at - right plan c.args.k - 1 < (steps + 1) * plan.step = omega (
      arith,
      c.whole_steps-beyond.ensures.up,
    ) in
    (omega arith, due_beyond plan c.args.k steps c.args.at after down up)

pub returns-else-beyond-saturating_sub-clause-none :
    goal.returns-else-beyond-saturating_sub-clause-none
returns-else-beyond-saturating_sub-clause-none c = λ q few due.
    let plan = c.args.plan.now in
    let steps = c.whole_steps-beyond.result in
    let after : right plan c.args.k < c.args.at = omega arith in
    let down : steps * plan.step ≤ c.args.at - right plan c.args.k - 1 = omega (
      arith,
      c.whole_steps-beyond.ensures.down,
    ) in
    none_beyond plan c.args.k steps c.args.at q after down (omega arith) due
