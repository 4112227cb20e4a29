use Rattle.std.proofs.Common.{◌≡◌, map, take}
use Rattle.rule_forms.specs.Forms.{plain}
use Rattle.ground_types.specs.Words.{domain_words}
use Rattle.domain_decl.specs.Contents.{names_of}
use Rattle.domain_decl.proofs.contents.names_of.Given as goal

abbrev pub invariant-loop-statement : goal.invariant-loop-statement
invariant-loop-statement l = l.names.items ≡ names_of (domain_words l.fn.domains)
    (map plain (take l.statement-index l.statements))
