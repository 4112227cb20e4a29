use Rattle.std.proofs.Common.{◌∙◌, sym}
use Rattle.rule_read.specs.declared.keyword.Kind.TheVariants as kind
use Rattle.rule_read.proofs.Letters.{letters_of}
use Rattle.rule_read.proofs.keyword.Kind.admits.Goals as goal

pub returns-in-Name-clause-letters : goal.returns-in-Name-clause-letters
returns-in-Name-clause-letters c = λ h. letters_of kind.Name c.args.word.now (sym c.is_name.ensures
    ∙ h)
