use Rattle.std.proofs.Common.{reverse, arith}
use Rattle.strata_check.specs.declared.walk.Mark.TheVariants.{Open}
use Rattle.strata_check.proofs.Walking.{circle, mark_at}
use Rattle.strata_check.proofs.walk.look.Goals as goal

pub index-requires : goal.index-requires
index-requires c =
    let inside = c.args.graph.now.inside c.args.at.place c.args.other
    (c.args.at.next, c.requires.next) in
    omega (arith, c.requires.walking.few, c.args.marks.now.ok.0)

pub enter-requires-clause-new : goal.enter-requires-clause-new
enter-requires-clause-new c =
    let inside = c.args.graph.now.inside c.args.at.place c.args.other
    (c.args.at.next, c.requires.next) in
    mark_at c.args.marks.now.items c.args.other c.index.result.now _
    (omega (arith, c.requires.walking.few)) c.index.ensures c.in-New.is

pub pass-requires-clause-done : goal.pass-requires-clause-done
pass-requires-clause-done c =
    let inside = c.args.graph.now.inside c.args.at.place c.args.other
    (c.args.at.next, c.requires.next) in
    mark_at c.args.marks.now.items c.args.other c.index.result.now _
    (omega (arith, c.requires.walking.few)) c.index.ensures c.in-Done.is

pub returns-in-Open : goal.returns-in-Open
returns-in-Open c =
    let inside = c.args.graph.now.inside c.args.at.place c.args.other
    (c.args.at.next, c.requires.next) in
    let at = mark_at c.args.marks.now.items c.args.other c.index.result.now
    (Open c.in-Open.next c.in-Open.greatest) (omega (arith, c.requires.walking.few))
    c.index.ensures c.in-Open.is in (
      c.args.other,
      inside,
      circle c.args.graph.now.rows.now c.args.marks.now.items c.args.other c.args.at.place
          (reverse c.args.below.now.items) c.requires.walking.trail_is
          (c.requires.walking.opened c.args.other c.in-Open.next c.in-Open.greatest at).stands
          (c.args.at.next, c.requires.next),
    )
