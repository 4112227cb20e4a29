use Rattle.std.proofs.Common.{◌≡◌, map, take}
use Rattle.rule_forms.specs.Forms.{plain}
use Rattle.domain_decl.specs.Contents.{rules_of}
use Rattle.domain_decl.proofs.contents.rules_of.Given as goal

abbrev pub invariant-loop-statement : goal.invariant-loop-statement
invariant-loop-statement l = map plain l.rules.items
    ≡ rules_of (map plain (take l.statement-index l.statements))
