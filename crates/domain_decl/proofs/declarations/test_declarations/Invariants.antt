use Rattle.std.proofs.Common.{◌≡◌, ◌≤◌, map, take, drop, filter_map}
use Rattle.std.specs.List.{count_by}
use Rattle.rule_forms.specs.Forms.{plain}
use Rattle.decl_known.specs.Faults.{first_refusal}
use Rattle.domain_decl.specs.Declarations.{is_domain, declares, declaration_fault}
use Rattle.domain_decl.specs.Declarations.{declaration_refusal}
use Rattle.domain_decl.proofs.declarations.test_declarations.Given as goal

abbrev pub invariant-loop-statement : goal.invariant-loop-statement
invariant-loop-statement l = record {
  declared : l.declared ≡ filter_map (λ s. declares s.form)
      (map plain (take l.statement-index l.statements));
  count : l.count ≡ count_by (λ s. is_domain s.form)
      (map plain (take l.statement-index l.statements));
  few : l.count ≤ l.statement-index;
  rest : declaration_refusal (map plain l.statements)
      ≡ first_refusal (declaration_fault (map plain l.statements))
      (map plain (take l.statement-index l.statements))
      (map plain (drop l.statement-index l.statements));
}
