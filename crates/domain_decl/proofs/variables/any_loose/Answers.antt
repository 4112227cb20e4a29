use Rattle.std.proofs.Common.{◌∙◌, sym, rules, tests}
use Rattle.std.proofs.lemmas.Iterator.{YieldsList-from_slice}
use Rattle.std.proofs.lemmas.Iterator.Search.{any_from_yields_List}
use Rattle.std.specs.List.{list_any}
use Rattle.decl_known.specs.Mentions.{variables}
use Rattle.decl_known.specs.Gathered.{mentions_of}
use Rattle.domain_decl.specs.Loose.{is_loose}
use Rattle.domain_decl.proofs.Loose.{any_loose_of}
use Rattle.domain_decl.proofs.variables.any_loose.Goals as goal

pub returns : goal.returns
returns c =
    any_from_yields_List (λ m. list_any (is_loose (variables (mentions_of c.args.others.now)))
    m.atom.now.args) _ _ _ c.any.ensures.ran (YieldsList-from_slice c.args.mentions.now cc)
    (λ x b q k. search (rules, tests))
    ∙ sym (any_loose_of (variables (mentions_of c.args.others.now)) c.args.mentions.now)
