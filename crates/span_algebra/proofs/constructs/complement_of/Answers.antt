use Rattle.std.proofs.Common.{not, ◌&&◌, ap, ◌∙◌}
use Rattle.std.specs.List.{list_any}
use Rattle.std.specs.BinaryHeap.{heap_items}
use Rattle.span_algebra.specs.Normal.{covers}
use Rattle.span_algebra.specs.declared.cursor.Side.TheVariants.{Wanted, Barred}
use Rattle.span_algebra.proofs.Counting.{complement_is, second_after}
use Rattle.span_algebra.proofs.constructs.complement_of.Goals as goal

pub returns : goal.returns
returns c = λ t. c.in_ok-out.ensures t
    ∙ complement_is (λ l. l.now) t c.args.others.now (covers c.as_slice.result.now t) _ _
    (second_after Wanted t (heap_items c.in_ok-cursors.cursors) (heap_items c.add.new.cursors)
    (heap_items c.add_all.new.cursors) _ _ c.in_ok-cursors.ensures.items
    (c.in_ok-add.ensures.each Wanted t) (c.in_ok-add_all.ensures.each Wanted t))
    (second_after Barred t (heap_items c.in_ok-cursors.cursors) (heap_items c.add.new.cursors)
    (heap_items c.add_all.new.cursors) _ _ c.in_ok-cursors.ensures.items
    (c.in_ok-add.ensures.each Barred t) (c.in_ok-add_all.ensures.each Barred t))
    ∙ ap (λ l. covers l t && not (list_any (λ l. covers l.now t) c.args.others.now))
    c.as_slice.ensures.list
