use Rattle.std.proofs.Common.{◌≡◌, ◌<◌, length, reverse, refl, ap, ◌∙◌, true, false, Some, arith}
use Rattle.std.proofs.Common.{rules, tests}
use Rattle.std.proofs.lemmas.Option.{slice_get_read}
use Rattle.strata_check.proofs.Searching.{searched_new}
use Rattle.strata_check.proofs.reach.meet.Goals.{Start}
use Rattle.strata_check.proofs.reach.meet.Goals as goal

inside : (c : Start) → c.args.other < length c.args.seen.now.items
inside c =
    omega (
      arith,
      c.requires.inside c.args.place c.args.other c.requires.named,
      c.requires.searching.few,
    )

pub index-requires : goal.index-requires
index-requires c = omega (arith, inside (goal.at.index-requires c).Start, c.args.seen.now.ok.0)

pub index_mut-requires : goal.index_mut-requires
index_mut-requires c =
    omega (arith, inside (goal.at.index_mut-requires c).Start, c.args.seen.now.ok.0)

pub returns-in_ok-push : goal.returns-in_ok-push
returns-in_ok-push c =
    let seen = c.args.seen.now.items in
    let fresh : c.index.result.now ≡ false = search (rules, tests) in
    searched_new c.args.rows.now c.args.start seen c.args.place (reverse c.args.left.now.items)
    c.requires.searching c.args.other c.args.left.now.items c.push.new.self.items refl
    c.requires.named
    (slice_get_read seen (length seen) c.args.other c.index.result.now refl
    (inside (goal.at.returns-in_ok-push c).Start) c.index.ensures
    ∙ ap Some fresh) c.in_ok-push.ensures.items

pub returns-else-not-index : goal.returns-else-not-index
returns-else-not-index c =
    let seen = c.args.seen.now.items in
    let there : c.index.result.now ≡ true = search (rules, tests) in
    record {
      searching = c.requires.searching;
      there = slice_get_read seen (length seen) c.args.other c.index.result.now refl
          (inside (goal.at.returns-else-not-index c).Start) c.index.ensures ∙ ap Some there;
      kept = λ u s. s;
      less = omega arith;
    }
