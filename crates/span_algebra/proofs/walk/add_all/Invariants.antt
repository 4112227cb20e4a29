use Rattle.std.proofs.Common.{◌≡◌, ◌+◌, ℕ, map, take}
use Rattle.std.specs.BinaryHeap.{heap_items}
use Rattle.span_algebra.specs.declared.cursor.Side.{Side}
use Rattle.span_algebra.specs.Walk.{AreCursors, count_on, count_at, counted_on}
use Rattle.span_algebra.proofs.walk.add_all.Given as goal

abbrev pub invariant-loop-list : goal.invariant-loop-list
invariant-loop-list l =
    AreCursors (heap_items l.cursors)
    × ((to : Side) (t : ℕ) → count_on to (heap_items l.cursors) t
    ≡ count_on to (heap_items l.fn.cursors) t + counted_on to l.side
    (count_at (map (λ l. l.now) (take l.list-index l.lists)) t))
