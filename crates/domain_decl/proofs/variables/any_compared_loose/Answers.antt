use Rattle.std.proofs.Common.{◌∙◌, sym, rules, tests, not}
use Rattle.std.proofs.lemmas.Iterator.{YieldsList-from_slice}
use Rattle.std.proofs.lemmas.Iterator.Search.{any_from_yields_List}
use Rattle.std.specs.List.{list_any}
use Rattle.ground_types.specs.Words.{has}
use Rattle.decl_known.specs.Mentions.{variables}
use Rattle.decl_known.specs.Rules.{compared}
use Rattle.decl_known.specs.Gathered.{mentions_of}
use Rattle.domain_decl.proofs.Loose.{any_compared}
use Rattle.domain_decl.proofs.variables.any_compared_loose.Goals as goal

pub returns : goal.returns
returns c =
    any_from_yields_List (λ body. list_any
    (λ x. not (has (variables (mentions_of c.args.mentions.now)) x)) (compared body)) _ _ _
    c.any.ensures.ran (YieldsList-from_slice c.args.bodies.now cc) (λ x b q k.
    search (rules, tests))
    ∙ sym (any_compared (variables (mentions_of c.args.mentions.now)) c.args.bodies.now)
