use Rattle.std.proofs.Common.{◌-◌, ◌^◌, Some}
use Rattle.ground_types.specs.Truth.{happens}
use Rattle.point_rule.specs.Known.{known, is_open}
use Rattle.point_rule.proofs.Bodies.{points_below, open_points}
use Rattle.point_rule.proofs.touch.touched.Goals as goal

pub open_among-requires-clause-end : goal.open_among-requires-clause-end
open_among-requires-clause-end c =
    rw (c.as_slice.ensures.list, c.in_ok-found.ensures)
    (points_below (happens (known c.args.cache.now.rows c.args.store.now) c.args.rule.now.trigger)
    c.args.w c.args.q (2 ^ 64 - 1) c.requires.end)

pub returns-in-Some : goal.returns-in-Some
returns-in-Some c =
    let table = known c.args.cache.now.rows c.args.store.now in
    rw (
      c.in-Some.is,
      ← open_points table (is_open (Some c.in-Some.before) c.args.cache.now
          c.args.store.now c.args.rule.now) c.args.rule.now c.args.w c.args.q,
      ← c.in_ok-found.ensures,
      ← c.as_slice.ensures.list,
    )
    c.open_among.ensures
