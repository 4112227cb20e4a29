use Rattle.std.proofs.Common.{◌∙◌, sym, rules, tests}
use Rattle.std.proofs.lemmas.Iterator.{YieldsList-from_slice}
use Rattle.std.proofs.lemmas.Iterator.Search.{any_from_yields_List}
use Rattle.std.specs.List.{list_any}
use Rattle.domain_decl.specs.Loose.{is_variable}
use Rattle.domain_decl.proofs.Loose.{is_variable_of}
use Rattle.domain_decl.proofs.variables.stands_in.Goals as goal

pub returns : goal.returns
returns c =
    any_from_yields_List (λ m. list_any (is_variable c.args.word.now) m.atom.now.args) _ _ _
    c.any.ensures.ran (YieldsList-from_slice c.args.mentions.now cc) (λ x b q k.
    search (rules, tests))
    ∙ sym (is_variable_of c.args.word.now c.args.mentions.now)
