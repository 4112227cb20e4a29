use Rattle.std.proofs.Common.{◌∙◌, sym, rules, tests}
use Rattle.std.proofs.lemmas.Iterator.{YieldsList-from_slice}
use Rattle.std.proofs.lemmas.Iterator.Search.{any_from_yields_List}
use Rattle.decl_known.specs.Gathered.{mention_of}
use Rattle.domain_decl.specs.Wrong.{is_wrong}
use Rattle.domain_decl.proofs.Loose.{any_of_mentions}
use Rattle.domain_decl.proofs.rules.any_wrong.Goals as goal

pub returns : goal.returns
returns c =
    any_from_yields_List (λ m. is_wrong c.args.wrong c.args.known.now.domains.now
    c.args.known.now.names.now (mention_of m)) _ _ _ c.any.ensures.ran
    (YieldsList-from_slice c.args.mentions.now cc) (λ x b q k. search (rules, tests))
    ∙ sym (any_of_mentions (is_wrong c.args.wrong c.args.known.now.domains.now
    c.args.known.now.names.now) c.args.mentions.now)
