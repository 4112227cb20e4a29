use Rattle.std.proofs.Common.{◌≡◌, reverse, Some, slice_get, sym, ap, ◌∙◌, arith}
use Rattle.std.proofs.lemmas.Option.{slice_get_within}
use Rattle.strata_check.specs.Rows.{row_at}
use Rattle.strata_check.proofs.Searching.{passes, row_read}
use Rattle.strata_check.proofs.reach.meet_all.Goals as goal

pub returns-clause-searching : goal.returns-clause-searching
returns-clause-searching c =
    let rows = c.args.rows.now in
    let row : row_at rows c.args.place ≡ c.as_slice-row.result.now = row_read rows c.args.place
    c.index-rows-place.result c.requires.within c.index-rows-place.is
    ∙ sym c.as_slice-row.ensures in
    passes rows c.args.start c.loop-other.seen.items c.args.place (reverse c.loop-other.left.items)
    c.loop-other.invariant.0
    (λ other n.
    let named : slice_get c.as_slice-row.result.now n.0 ≡ Some other =
    sym (ap (λ l. slice_get l n.0) row) ∙ n.1 in
    let within = slice_get_within c.as_slice-row.result.now n.0 other named in
    c.loop-other.invariant.1 n.0 other (omega arith) named)
