use Rattle.std.proofs.Common.{reverse}
use Rattle.strata_check.specs.Searches.{IsSearching, search_left}
use Rattle.strata_check.proofs.reach.leads_to_itself.Given as goal

abbrev pub invariant-search : goal.invariant-search
invariant-search l = IsSearching l.rows l.start l.seen.items (reverse l.left.items)

abbrev pub decreases-search : goal.decreases-search
decreases-search l = search_left l.seen.items l.left.items
