use Rattle.std.proofs.Common.{◌∙◌, rules, tests}
use Rattle.std.proofs.lemmas.Iterator.{YieldsList-from_slice}
use Rattle.std.proofs.lemmas.Iterator.Search.{any_from_yields_List}
use Rattle.std.specs.Str.{bytes_eq}
use Rattle.word_table.proofs.LookUps.{has_of_items}
use Rattle.decl_known.proofs.known.has_domain.Goals as goal

pub returns : goal.returns
returns c =
    any_from_yields_List (λ domain. bytes_eq domain.word c.args.word.now) _ _ _ c.any.ensures.ran
    (YieldsList-from_slice c.args.domains.now cc) (λ x b q k. search (rules, tests))
    ∙ has_of_items (λ domain. domain.word) c.args.word.now c.args.domains.now
