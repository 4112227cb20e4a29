use Rattle.std.proofs.Common.{◌≡◌, ◌+◌, Some, None, sym}
use Rattle.simple_fluent.specs.Firsts.{earlier, first_of}
use Rattle.simple_fluent.proofs.Merging.{merging_start, merging_more, merging_fewer, merging_end}
use Rattle.simple_fluent.proofs.firsts.merge.Goals as goal

pub merge-init : goal.merge-init
merge-init c = rw c.in_ok-out.ensures.items (0, merging_start _ _ c.requires.one c.requires.two)

pub merge-smaller : goal.merge-smaller
merge-smaller c =
    let next : earlier (first_of c.merge.one_left.now) (first_of c.merge.two_left.now)
    ≡ Some c.in-Some.first =
    rw (← c.first_of.ensures, ← c.first_of-in-merge.ensures) (sym c.in-Some.ensures) in
    rw (c.rest_firsts-one_left.ensures, c.rest_firsts-two_left.ensures) (merging_fewer _ _ _ _ _ _
    _ c.merge.invariant.1 next)

pub merge-preserved : goal.merge-preserved
merge-preserved c =
    let next : earlier (first_of c.merge.one_left.now) (first_of c.merge.two_left.now)
    ≡ Some c.in-Some.first =
    rw (← c.first_of.ensures, ← c.first_of-in-merge.ensures) (sym c.in-Some.ensures) in
    rw (c.rest_firsts-one_left.ensures, c.rest_firsts-two_left.ensures, c.in_ok-push.ensures.items)
    (c.in-Some.first.at + 1, merging_more _ _ _ _ _ _ _ c.merge.invariant.1 next)

pub returns-clause-each : goal.returns-clause-each
returns-clause-each c =
    let none : earlier (first_of c.merge.one_left.now) (first_of c.merge.two_left.now) ≡ None =
    rw (← c.first_of.ensures, ← c.first_of-in-merge.ensures) (sym c.in_default.ensures) in
    merging_end _ _ _ _ _ _ c.merge.invariant.1 none
