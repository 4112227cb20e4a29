use Rattle.std.proofs.Common.{◌≡◌, ◌+◌, Some, None, sym}
use Rattle.span_algebra.specs.Walk.{front_of}
use Rattle.span_algebra.specs.Merge.{lower}
use Rattle.span_algebra.proofs.Merging.{merging_start, merging_more, merging_fewer, merging_end}
use Rattle.span_algebra.proofs.symmetric.symmetric_difference.Goals as goal

pub merge-init : goal.merge-init
merge-init c = rw (
  c.in_ok-out.ensures.items,
  c.as_slice-one_left.ensures.list,
  c.as_slice-two_left.ensures.list,
) (
  0,
  merging_start _ _ c.as_slice-one_left.ensures.rising
      c.as_slice-two_left.ensures.rising,
)

pub merge-smaller : goal.merge-smaller
merge-smaller c =
    let next : lower (front_of c.merge.one_left.now) (front_of c.merge.two_left.now)
    ≡ Some c.in-Some.at =
    rw (← c.first.ensures, ← c.first-in-merge.ensures) (sym c.in-Some.ensures) in
    rw (c.past-one_left.ensures, c.past-two_left.ensures) (merging_fewer _ _ _ _ _ _
    _ c.merge.invariant.1 next)

pub merge-preserved : goal.merge-preserved
merge-preserved c =
    let next : lower (front_of c.merge.one_left.now) (front_of c.merge.two_left.now)
    ≡ Some c.in-Some.at =
    rw (← c.first.ensures, ← c.first-in-merge.ensures) (sym c.in-Some.ensures) in
    rw (
      c.past-one_left.ensures,
      c.past-two_left.ensures,
      c.in_ok-push_if.ensures,
      c.begins_one.ensures,
    ) (c.in-Some.at + 1, merging_more _ _ _ _ _ _ _ c.merge.invariant.1 next)

pub of-requires : goal.of-requires
of-requires c = c.merge.invariant.1.rises

pub returns : goal.returns
returns c =
    let none : lower (front_of c.merge.one_left.now) (front_of c.merge.two_left.now) ≡ None =
    rw (← c.first.ensures, ← c.first-in-merge.ensures) (sym c.in_default.ensures) in
    rw c.of.ensures (merging_end _ _ _ _ _ _ c.merge.invariant.1 none)
