use Rattle.std.proofs.Common.{◌≡◌, ◌++◌, take, filter_map}
use Rattle.ground_types.specs.Words.{place_in, name_words}
use Rattle.strata_check.proofs.rows.add_names.Given as goal

abbrev pub invariant-loop-mention : goal.invariant-loop-mention
invariant-loop-mention l = l.row ≡ l.initial.row ++ filter_map
    (λ m. place_in (name_words l.known.names.now) m.atom.now.name)
    (take l.mention-index l.atoms)
