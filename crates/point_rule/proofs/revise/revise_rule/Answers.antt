use Rattle.std.proofs.Common.{◌-◌, ◌^◌}
use Rattle.ground_types.specs.Truth.{happens}
use Rattle.point_rule.specs.Known.{known}
use Rattle.point_rule.proofs.Bodies.{points_below, body_points}
use Rattle.point_rule.proofs.revise.revise_rule.Goals as goal

pub true_among-requires-clause-end : goal.true_among-requires-clause-end
true_among-requires-clause-end g c =
    rw (c.as_slice.ensures.list, c.in_ok-at.ensures)
    (points_below (happens (known c.args.cache.now.rows c.args.store.now) c.args.rule.now.trigger)
    c.args.w c.args.q (2 ^ 64 - 1) c.requires.end)

pub returns-clause-found : goal.returns-clause-found
returns-clause-found g c =
    rw (
      ← body_points (known c.args.cache.now.rows c.args.store.now) c.args.rule.now c.args.w
          c.args.q,
      ← c.in_ok-at.ensures,
      ← c.as_slice.ensures.list,
    )
    c.true_among.ensures.found
