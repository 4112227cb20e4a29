use Rattle.std.proofs.Common.{inl, inr, sym, ◌∙◌}
use Rattle.span_algebra.proofs.Cutting.{turn_span, turn_take, turn_leave, cutting_end, no_front}
use Rattle.span_algebra.proofs.Parts.{rising_filter}
use Rattle.span_algebra.proofs.cut.cut_points.Goals as goal
use Rattle.span_algebra.proofs.cut.cut_points.Goals.{then-span-point-2+in_ok-push}
use Rattle.span_algebra.proofs.cut.cut_points.Goals.{else-span-point-2}
use Rattle.span_algebra.proofs.cut.cut_points.Goals.{in_default, in_default-2}

pub cut-preserved-then-span-point : goal.cut-preserved-then-span-point
cut-preserved-then-span-point c =
    rw c.rest-spans_left.ensures
    (turn_span _ _ _ _ _ _ _ c.cut.invariant c.in-Some-Some.ensures c.in-Some-Some.ensures'
    c.if-span-point.true)

pub cut-preserved : goal.cut-preserved
cut-preserved c =
    rw c.rest-points_left.ensures
    (elim c.if-span-point-2.branch [
      | then-span-point-2+in_ok-push w ↦ rw (w.out-is, w.in_ok-push.ensures.items)
          (turn_take _ _ _ _ _ _ _ c.cut.invariant c.in-Some-Some.ensures c.in-Some-Some.ensures'
          c.if-span-point.false w.if-span-point-2.true)
      | else-span-point-2 w ↦ rw w.out-is (turn_leave _ _ _ _ _ _ _ c.cut.invariant
          c.in-Some-Some.ensures c.in-Some-Some.ensures' w.if-span-point-2.false)
    ])

pub of-requires : goal.of-requires
of-requires c = elim c.match-first.branch [
  | in_default w ↦ rw (cutting_end _ _ _ _ _ c.cut.invariant
      (inr (no_front _ (sym w.in_default.is-1 ∙ c.first-in-cut.ensures))))
      (rising_filter _ 0 c.args.points.now c.as_slice-points_left.ensures.rising)
  | in_default-2 w ↦ rw (cutting_end _ _ _ _ _ c.cut.invariant
      (inl (no_front _ (sym w.in_default.is-0 ∙ c.first.ensures))))
      (rising_filter _ 0 c.args.points.now c.as_slice-points_left.ensures.rising)
]

pub returns : goal.returns
returns c = elim c.match-first.branch [
  | in_default w ↦ c.of.ensures ∙ cutting_end _ _ _ _ _ c.cut.invariant
      (inr (no_front _ (sym w.in_default.is-1 ∙ c.first-in-cut.ensures)))
  | in_default-2 w ↦ c.of.ensures ∙ cutting_end _ _ _ _ _ c.cut.invariant
      (inl (no_front _ (sym w.in_default.is-0 ∙ c.first.ensures)))
]
