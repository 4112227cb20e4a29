use Rattle.std.proofs.Common.{◌≡◌, take, take_all, ◌∙◌, arith}
use Rattle.derived_event.proofs.Borders.{borders_in_rise}
use Rattle.derived_event.proofs.happening.borders_in.Goals as goal

pub of-requires : goal.of-requires
of-requires c =
    let all : take c.loop-span.span-index c.as_slice-span-items.result.now ≡ c.args.row.now =
    take_all _ _ (omega (arith, c.loop-span-test.false)) ∙ c.as_slice-span-items.ensures.list in
    rw (c.loop-span.invariant, all) (borders_in_rise c.args.border c.args.row.now c.args.w
    c.args.q c.as_slice-span-items.ensures.normal)
