use Rattle.std.proofs.Common.{◌≡◌, ◌<◌, ◌≤◌, ◌∷◌, ℕ, Some, reverse, slice_get}
use Rattle.strata_check.specs.Searches.{IsSearching, IsSeen, search_left}
use Rattle.strata_check.proofs.reach.meet_all.Given as goal

abbrev pub invariant-loop-other : goal.invariant-loop-other
invariant-loop-other l =
    IsSearching l.rows l.start l.seen.items (l.place ∷ reverse l.left.items)
    × ((i u : ℕ) → i < l.other-index → slice_get l.row i ≡ Some u → IsSeen l.seen.items u)
    × (search_left l.seen.items l.left.items ≤ search_left l.fn.seen.items l.fn.left.items)
