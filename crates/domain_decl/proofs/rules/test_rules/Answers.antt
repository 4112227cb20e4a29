use Rattle.std.proofs.Common.{◌≡◌, rules, map, sym, subst, Err}
use Rattle.rule_forms.specs.Forms.{plain}
use Rattle.decl_known.specs.Rules.{rule_refusal}
use Rattle.domain_decl.specs.Testing.{Tests}
use Rattle.domain_decl.proofs.Refusals.{rule_refused, rule_passed}
use Rattle.domain_decl.proofs.rules.test_rules.Goals as goal

pub returns-in_err-test_rule : goal.returns-in_err-test_rule
returns-in_err-test_rule c =
    let same : c.from_residual-in_err-test_rule.result ≡ Err c.in_err-test_rule.field-0.0 =
    search (rules, c.from_residual-in_err-test_rule.ensures) in
    subst (λ r. Tests r (rule_refusal c.args.domains.now c.args.names.now
    (map plain c.args.statements.now))) (sym same)
    (rule_refused c.args.domains.now c.args.names.now c.args.statements.now
    c.loop-statement.statement-index c.statement-item.result c.loop-statement-test.true
    c.statement-item.is c.loop-statement.invariant
    c.in_ok-known.known.domains.now c.in_ok-known.known.names.now c.in_ok-known.ensures.domains
    c.in_ok-known.ensures.names c.in_err-test_rule.field-0.0 c.in_err-test_rule.ensures)

pub loop-statement-preserved : goal.loop-statement-preserved
loop-statement-preserved c =
    rule_passed c.args.domains.now c.args.names.now c.args.statements.now
    c.loop-statement.statement-index c.statement-item.result c.loop-statement-test.true
    c.statement-item.is c.loop-statement.invariant
    c.in_ok-known.known.domains.now c.in_ok-known.known.names.now c.in_ok-known.ensures.domains
    c.in_ok-known.ensures.names c.in_ok-test_rule.ensures
