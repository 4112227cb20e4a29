use Rattle.std.proofs.Common.{◌≤◌, ◌<◌, List, length, ap, ◌∙◌, arith}
use Rattle.ground_types.specs.declared.program.Unit.{Unit}
use Rattle.delay_revise.proofs.Opening.{openings_more, openings_all}
use Rattle.delay_revise.proofs.openings.openings.Goals as goal

pub loop-number-preserved : goal.loop-number-preserved
loop-number-preserved c =
    let within : c.loop-number.number < length c.args.program.now.units =
    omega (
      arith,
      c.loop-number-test.true,
      ap (λ (l : List Unit). length l)
          c.as_slice-units.ensures,
    ) in
    λ history same.
    openings_more c.args.program.now history c.args.k c.loop-number.number
    c.loop-number.opening.items c.push.new.self.items c.opening_value.result within
    (c.loop-number.invariant history same) (c.opening_value.ensures history same)
    c.in_ok-push.ensures.items

pub returns : goal.returns
returns c =
    let all : length c.args.program.now.units ≤ c.loop-number.number =
    omega (
      arith,
      c.loop-number-test.false,
      ap (λ (l : List Unit). length l)
          c.as_slice-units.ensures,
    ) in
    λ history same.
    c.loop-number.invariant history same
    ∙ openings_all c.args.program.now history c.args.k c.loop-number.number all
