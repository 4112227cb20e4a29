use Rattle.std.proofs.Common.{refl, ◌∙◌}
use Rattle.std.specs.BinaryHeap.{heap_items}
use Rattle.span_algebra.specs.declared.cursor.Side.TheVariants.{Wanted}
use Rattle.span_algebra.proofs.Counting.{intersection_is, first_after}
use Rattle.span_algebra.proofs.constructs.intersection_of.Goals as goal

pub returns : goal.returns
returns c = λ t. c.in_ok-out.ensures t
    ∙ intersection_is (λ l. l.now) t c.args.lists.now _ _ 0 refl
    (first_after Wanted t (heap_items c.in_ok-cursors.cursors) (heap_items c.add_all.new.cursors) _
    c.in_ok-cursors.ensures.items (c.in_ok-add_all.ensures.each Wanted t))
