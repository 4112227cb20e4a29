use Rattle.std.proofs.Common.{ap, ◌∙◌}
use Rattle.ground_types.specs.Sound.{is_distinct}
use Rattle.ground_types.specs.Words.{domain_words, name_words}
use Rattle.word_table.proofs.LookUps.{is_distinct-back}
use Rattle.strata_check.proofs.layering.rows_of_names.Goals as goal

pub rows_of-requires : goal.rows_of-requires
rows_of-requires c =
    let checked = c.args.checked.now in
    ap (λ ns. is_distinct (name_words ns)) (c.in_ok-known.ensures.names ∙ c.as_slice-names.ensures)
    ∙ is_distinct-back (domain_words checked.domains) (name_words checked.names)
    c.requires.distinct
