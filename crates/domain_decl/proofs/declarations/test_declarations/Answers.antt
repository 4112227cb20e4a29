use Rattle.std.proofs.Common.{◌≡◌, ◌+◌, ◌∙◌, ap, sym, subst, map, take, Err, arith, rules, ◌++◌, []}
use Rattle.std.proofs.Common.{cond}
use Rattle.std.specs.List.{cons_option, count_by}
use Rattle.rule_forms.specs.Forms.{plain, plain_form}
use Rattle.domain_decl.specs.Testing.{Tests}
use Rattle.domain_decl.specs.Declarations.{is_domain, declares, declaration_refusal}
use Rattle.domain_decl.proofs.Prefixes.{filter_map-next}
use Rattle.domain_decl.proofs.Declaring.{count_next, refused_next, passed_next}
use Rattle.domain_decl.proofs.declarations.test_declarations.Goals.{then-is_domain, else-is_domain}
use Rattle.domain_decl.proofs.declarations.test_declarations.Goals as goal

pub returns-in_err-test_declaration : goal.returns-in_err-test_declaration
returns-in_err-test_declaration c =
    let same : c.from_residual-in_err-test_declaration.result
    ≡ Err c.in_err-test_declaration.field-0.0 =
    search (rules, c.from_residual-in_err-test_declaration.ensures) in
    subst (λ r. Tests r (declaration_refusal (map plain c.args.statements.now))) (sym same)
    (refused_next c.args.statements.now c.loop-statement.statement-index c.statement-item.result
    c.loop-statement-test.true c.statement-item.is
    c.in_ok-domains.domains c.loop-statement.declared c.loop-statement.count
    c.in_ok-domains.ensures c.loop-statement.invariant.declared c.loop-statement.invariant.count
    c.loop-statement.invariant.rest c.in_err-test_declaration.field-0.0
    c.in_err-test_declaration.ensures.tests)

pub loop-statement-preserved : goal.loop-statement-preserved
loop-statement-preserved c =
    let next = count_next c.args.statements.now c.loop-statement.statement-index
    c.statement-item.result c.loop-statement-test.true c.statement-item.is in
    let before = count_by (λ s. is_domain s.form)
    (map plain (take c.loop-statement.statement-index c.args.statements.now)) in
    record {
      declared = c.in_ok-test_declaration.ensures.declared
          ∙ ap (λ l. l ++ cons_option (declares (plain_form c.statement-item.result.form)) [])
          c.loop-statement.invariant.declared
          ∙ sym (filter_map-next c.args.statements.now c.loop-statement.statement-index
          c.statement-item.result c.loop-statement-test.true c.statement-item.is
          (λ s. declares s.form));
      count = elim c.if-is_domain.branch [
        | then-is_domain w ↦ w.count-is ∙ ap (λ n. n + 1) c.loop-statement.invariant.count
            ∙ sym (next ∙ ap (λ b. before + cond b 1 0) (sym w.if-is_domain.ensures))
        | else-is_domain w ↦ w.count-is ∙ c.loop-statement.invariant.count
            ∙ sym (next ∙ ap (λ b. before + cond b 1 0) (sym w.if-is_domain.ensures) ∙ omega arith)
      ];
      few = elim c.if-is_domain.branch [
        | then-is_domain w ↦ omega arith
        | else-is_domain w ↦
            omega arith
      ];
      rest = passed_next c.args.statements.now c.loop-statement.statement-index
          c.statement-item.result c.loop-statement-test.true c.statement-item.is
          c.in_ok-domains.domains c.loop-statement.declared c.loop-statement.count
          c.in_ok-domains.ensures c.loop-statement.invariant.declared
          c.loop-statement.invariant.count
          c.loop-statement.invariant.rest c.in_ok-test_declaration.ensures.tests;
    }
