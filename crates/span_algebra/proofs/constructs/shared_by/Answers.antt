use Rattle.std.proofs.Common.{ℕ, ◌∙◌, ap, arith, eqb}
use Rattle.std.specs.BinaryHeap.{heap_items}
use Rattle.span_algebra.specs.declared.cursor.Side.TheVariants.{Wanted}
use Rattle.span_algebra.proofs.Counting.{second_after}
use Rattle.span_algebra.proofs.constructs.shared_by.Goals as goal

pub returns : goal.returns
returns c = λ t. c.in_ok-out.ensures t
    ∙ ap (λ (n : ℕ). eqb n c.args.count)
    (omega (
      arith,
      second_after Wanted t (heap_items c.in_ok-cursors.cursors)
          (heap_items c.add.new.cursors) (heap_items c.add-2.new.cursors) _ _
          c.in_ok-cursors.ensures.items (c.in_ok-add.ensures.each Wanted t)
          (c.in_ok-add-2.ensures.each Wanted t),
    ))
