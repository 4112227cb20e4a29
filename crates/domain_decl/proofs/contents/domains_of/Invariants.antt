use Rattle.std.proofs.Common.{◌≡◌, map, take}
use Rattle.rule_forms.specs.Forms.{plain}
use Rattle.domain_decl.specs.Contents.{domains_of}
use Rattle.domain_decl.proofs.contents.domains_of.Given as goal

abbrev pub invariant-loop-statement : goal.invariant-loop-statement
invariant-loop-statement l = l.domains.items
    ≡ domains_of (map plain (take l.statement-index l.statements))
