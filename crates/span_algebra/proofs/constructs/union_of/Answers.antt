use Rattle.std.proofs.Common.{◌∙◌}
use Rattle.std.specs.BinaryHeap.{heap_items}
use Rattle.span_algebra.specs.declared.cursor.Side.TheVariants.{Wanted, Barred}
use Rattle.span_algebra.proofs.Counting.{union_is, first_after}
use Rattle.span_algebra.proofs.constructs.union_of.Goals as goal

pub returns : goal.returns
returns c = λ t. c.in_ok-out.ensures t
    ∙ union_is (λ l. l.now) t c.args.lists.now _ _
    (first_after Wanted t (heap_items c.in_ok-cursors.cursors) (heap_items c.add_all.new.cursors) _
    c.in_ok-cursors.ensures.items (c.in_ok-add_all.ensures.each Wanted t))
    (first_after Barred t (heap_items c.in_ok-cursors.cursors) (heap_items c.add_all.new.cursors) _
    c.in_ok-cursors.ensures.items (c.in_ok-add_all.ensures.each Barred t))
