use Rattle.std.proofs.Common.{◌≡◌, take, take_all, arith}
use Rattle.ground_types.specs.Truth.{body_holds}
use Rattle.span_algebra.proofs.Parts.{rising_filter}
use Rattle.point_rule.specs.Known.{known}
use Rattle.point_rule.proofs.revise.true_among.Goals as goal

pub of-requires : goal.of-requires
of-requires g c =
    let all : take c.loop-point.point-index c.args.at.now ≡ c.args.at.now =
    take_all _ _ (omega (arith, c.loop-point-test.false)) in
    rw (c.loop-point.invariant.found, all)
    (rising_filter (body_holds (known c.args.cache.now.rows c.args.store.now) c.args.rule.now) 0
    c.args.at.now c.requires.rising)
