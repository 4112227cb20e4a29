use Rattle.std.proofs.Common.{◌≡◌, take, take_all, arith, Some}
use Rattle.span_algebra.proofs.Parts.{rising_filter}
use Rattle.point_rule.specs.Known.{is_open}
use Rattle.point_rule.proofs.touch.open_among.Goals as goal

pub of-requires : goal.of-requires
of-requires c =
    let all : take c.loop-point.point-index c.args.at.now ≡ c.args.at.now =
    take_all _ _ (omega (arith, c.loop-point-test.false)) in
    rw (c.loop-point.invariant, all)
    (rising_filter (is_open (Some c.args.before) c.args.cache.now c.args.store.now c.args.rule.now)
    0 c.args.at.now c.requires.rising)
