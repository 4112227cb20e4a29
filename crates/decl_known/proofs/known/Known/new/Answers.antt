use Rattle.ground_types.specs.Words.{domain_words, name_words}
use Rattle.word_table.proofs.LookUps.{is_distinct-back}
use Rattle.decl_known.proofs.known.Known.new.Goals as goal

pub invariant_of-result-clause-placed : goal.invariant_of-result-clause-placed
invariant_of-result-clause-placed c = c.in_ok-by_word.ensures.distinct
    (is_distinct-back (domain_words c.args.domains.now) (name_words c.args.names.now) c.requires)
