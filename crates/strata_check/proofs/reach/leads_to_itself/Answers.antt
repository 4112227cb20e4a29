use Rattle.std.proofs.Common.{◌≡◌, ◌<◌, [], length, reverse, refl, inl, sym, subst, arith, rules}
use Rattle.std.proofs.lemmas.Option.{slice_get_read}
use Rattle.strata_check.specs.Searches.{IsSearching}
use Rattle.strata_check.specs.Walks.{Stands}
use Rattle.strata_check.proofs.Walking.{reverse_push}
use Rattle.strata_check.proofs.Searching.{search_ends, met_within}
use Rattle.strata_check.proofs.reach.leads_to_itself.Goals as goal

pub meet_all-requires-clause-within : goal.meet_all-requires-clause-within
meet_all-requires-clause-within c =
    met_within c.args.rows.now c.args.start c.search.seen.items (reverse c.search.left.items)
    c.search.invariant c.requires.start c.in-Some.place
    (subst (Stands c.in-Some.place) (sym (reverse_push _ _ _ c.in-Some.ensures.items)) (inl refl))

pub returns : goal.returns
returns c =
    let none : reverse c.search.left.items ≡ [] = search rules in
    let searching : IsSearching c.args.rows.now c.args.start c.search.seen.items [] =
    subst (IsSearching c.args.rows.now c.args.start c.search.seen.items) none c.search.invariant
    in
    let inside : c.args.start < length c.search.seen.items =
    omega (arith, searching.few, c.requires.start) in
    search_ends c.args.rows.now c.args.start c.search.seen.items searching c.index.result.now
    (slice_get_read c.search.seen.items (length c.search.seen.items) c.args.start
    c.index.result.now refl inside c.index.ensures)
