use Rattle.std.proofs.Common.{◌≡◌, ◌++◌, take, filter_map, ap, refl, ◌∙◌, arith}
use Rattle.std.proofs.lemmas.Grind.{common_steps}
use Rattle.ground_types.specs.Words.{place_in, name_words}
use Rattle.decl_known.proofs.Gathering.{one_more_kept}
use Rattle.strata_check.proofs.Places.{names_lent}
use Rattle.strata_check.proofs.rows.add_names.Goals as goal

pub loop-mention-preserved : goal.loop-mention-preserved
loop-mention-preserved c =
    one_more_kept (λ m. place_in (name_words c.args.known.now.names.now) m.atom.now.name)
    c.args.atoms.now c.loop-mention.mention-index _ c.mention-item.result c.args.row.now
    c.loop-mention.row c.add_atom.new.row
    (c.loop-mention-test.true, c.mention-item.is) refl c.in_ok-add_atom.ensures
    c.loop-mention.invariant

pub returns : goal.returns
returns c =
    let all : take c.loop-mention.mention-index c.args.atoms.now ≡ c.args.atoms.now =
    grind (arith, common_steps) in
    c.loop-mention.invariant
    ∙ ap (λ xs. c.args.row.now ++ filter_map (λ m. place_in
    (name_words c.args.known.now.names.now) m.atom.now.name) xs) all
    ∙ ap (λ l. c.args.row.now ++ l) (names_lent c.args.known.now.names.now c.args.atoms.now)
