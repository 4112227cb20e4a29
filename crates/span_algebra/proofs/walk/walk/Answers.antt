use Rattle.std.proofs.Common.{◌+◌, sym, refl, ap, arith, ◌∙◌}
use Rattle.span_algebra.specs.Normal.{covers}
use Rattle.span_algebra.proofs.Walking.{turn_is, walking_start, taken_out, turned_on, turned_fewer}
use Rattle.span_algebra.proofs.Walking.{held_few, held_some, pending, settled, ended_walk}
use Rattle.span_algebra.proofs.walk.walk.Goals as goal

pub walk-init : goal.walk-init
walk-init c = rw c.new-out.ensures.items (
  0,
  walking_start _ _ _ c.requires.cursors c.requires.none
      refl refl,
)

pub past-held-requires-clause-less : goal.past-held-requires-clause-less
past-held-requires-clause-less c =
    held_some _ _ _ _ _ _ _ _ (taken_out _ _ _ _ _ _ _ _ _ c.walk.invariant.1
    c.in-Some.ensures.permutation c.in-Some.ensures.top c.in-Some.ensures.below_top)

pub past-held-requires-clause-more : goal.past-held-requires-clause-more
past-held-requires-clause-more c = λ side.
    let few = held_few _ _ _ _ _ _ _ c.walk.invariant.1 side in
    omega (arith, few, c.walk.cursors.data.ok, c.walk.cursors.data.small)

pub walk-smaller-then-not-stands_at : goal.walk-smaller-then-not-stands_at
walk-smaller-then-not-stands_at c = turned_fewer _ _ _ _ _ _ _ _ _ _ _ c.walk.invariant.1
    (turn_is _ _ _ _ _ _ c.in-Some.ensures.permutation c.in-Some.ensures.top
    c.in-Some.ensures.heap_order c.in-Some.ensures.below_top
    c.in_ok-put_back.ensures.ordered c.in_ok-put_back.ensures.passed c.past-held.ensures)

pub walk-smaller : goal.walk-smaller
walk-smaller c = turned_fewer _ _ _ _ _ _ _ _ _ _ _ c.walk.invariant.1
    (turn_is _ _ _ _ _ _ c.in-Some.ensures.permutation c.in-Some.ensures.top
    c.in-Some.ensures.heap_order c.in-Some.ensures.below_top
    c.in_ok-put_back.ensures.ordered c.in_ok-put_back.ensures.passed c.past-held.ensures)

pub walk-preserved-then-not-stands_at : goal.walk-preserved-then-not-stands_at
walk-preserved-then-not-stands_at c =
    let on = turned_on _ _ _ _ _ _ _ _ _ _ _ c.walk.invariant.1
    (turn_is _ _ _ _ _ _ c.in-Some.ensures.permutation c.in-Some.ensures.top
    c.in-Some.ensures.heap_order c.in-Some.ensures.below_top
    c.in_ok-put_back.ensures.ordered c.in_ok-put_back.ensures.passed c.past-held.ensures) in (
      c.in-Some.cursor.at + 1,
      rw (c.in_ok-begun.ensures.out, c.in_ok-begun.ensures.begun, c.answer.ensures)
          (settled _ _ _ _ _ _ _ on (sym c.stands_at.ensures.front ∙ c.if-not-stands_at.true)
          c.stands_at.ensures.least),
    )

pub walk-preserved : goal.walk-preserved
walk-preserved c =
    let on = turned_on _ _ _ _ _ _ _ _ _ _ _ c.walk.invariant.1
    (turn_is _ _ _ _ _ _ c.in-Some.ensures.permutation c.in-Some.ensures.top
    c.in-Some.ensures.heap_order c.in-Some.ensures.below_top
    c.in_ok-put_back.ensures.ordered c.in_ok-put_back.ensures.passed c.past-held.ensures) in (
      c.in-Some.cursor.at,
      pending _ _ _ _ _ _ _ on (sym c.stands_at.ensures.front
          ∙ c.if-not-stands_at.false),
    )

pub of-requires : goal.of-requires
of-requires c = (ended_walk _ _ _ _ _ _ _ c.requires.cursors c.requires.none c.walk.invariant.1
    (sym c.walk.cursors.data.ok.0 ∙ c.in_default.ensures.none)).normal

pub returns : goal.returns
returns c = λ t. ap (λ l. covers l t) c.of.ensures
    ∙ (ended_walk _ _ _ _ _ _ _ c.requires.cursors c.requires.none c.walk.invariant.1
    (sym c.walk.cursors.data.ok.0 ∙ c.in_default.ensures.none)).each t
