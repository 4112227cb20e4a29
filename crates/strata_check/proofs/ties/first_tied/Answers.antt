use Rattle.std.proofs.Common.{◌≡◌, true, rules, tests}
use Rattle.strata_check.specs.Ranks.{NeverRise}
use Rattle.strata_check.proofs.Falling.{no_circle}
use Rattle.strata_check.proofs.ties.first_tied.Goals as goal

pub returns-then-not-are_under-clause-first : goal.returns-then-not-are_under-clause-first
returns-then-not-are_under-clause-first c =
    let rows = c.args.rows.now in
    let ranks = c.args.ranks.now in
    let held : c.never_rise.result ≡ true = search (rules, tests) in
    let never : NeverRise rows ranks = c.never_rise.ensures held in
    no_circle rows ranks never c.loop-place.place c.loop-place.invariant
