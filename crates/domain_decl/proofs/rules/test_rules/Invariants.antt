use Rattle.std.proofs.Common.{◌≡◌, map, take, drop}
use Rattle.rule_forms.specs.Forms.{plain}
use Rattle.decl_known.specs.Faults.{first_refusal}
use Rattle.decl_known.specs.Rules.{rule_fault, rule_refusal}
use Rattle.domain_decl.proofs.rules.test_rules.Given as goal

abbrev pub invariant-loop-statement : goal.invariant-loop-statement
invariant-loop-statement l =
    rule_refusal l.domains l.names (map plain l.statements)
    ≡ first_refusal (λ before. rule_fault l.domains l.names)
    (map plain (take l.statement-index l.statements))
    (map plain (drop l.statement-index l.statements))
