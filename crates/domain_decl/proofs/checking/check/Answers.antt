use Rattle.std.proofs.Common.{◌≡◌, ◌∙◌, ◌<◌, ◌^◌, ap, sym, subst, map, length, None, Err, arith}
use Rattle.std.proofs.Common.{rules}
use Rattle.std.proofs.lemmas.List.{length-map}
use Rattle.rule_forms.specs.Forms.{plain}
use Rattle.rule_forms.specs.Sound.{AllOf, IsSoundStatement}
use Rattle.ground_types.specs.Words.{domain_words}
use Rattle.domain_decl.specs.Contents.{names_of}
use Rattle.decl_known.specs.Rules.{rule_refusal}
use Rattle.domain_decl.specs.Accepted.{checking, Answers}
use Rattle.domain_decl.proofs.Accepting.{domains_few, domains_different, words_different}
use Rattle.domain_decl.proofs.Accepting.{refused_by_rule, accepted, accepted_sound}
use Rattle.domain_decl.proofs.checking.check.Goals.{After-as_slice-3, After-rules_of}
use Rattle.domain_decl.proofs.checking.check.Goals as goal

-- the names are those that are declared
names_declared : (c : After-as_slice-3) → c.in_ok-names.names
    ≡ names_of (domain_words c.in_ok-domains.domains) (map plain c.as_slice-statements.result.now)
names_declared c = c.in_ok-names.ensures ∙ ap (λ ds. names_of (domain_words ds)
    (map plain c.as_slice-statements.result.now)) c.as_slice.ensures

names_lent : (c : After-as_slice-3) → c.as_slice-3.result.now
    ≡ names_of (domain_words c.as_slice-2.result.now) (map plain c.as_slice-statements.result.now)
names_lent c = c.as_slice-3.ensures ∙ names_declared c ∙ ap (λ ds. names_of (domain_words ds)
    (map plain c.as_slice-statements.result.now)) (sym c.as_slice-2.ensures)

-- no statement breaks a rule
rules_pass : (c : After-rules_of) → rule_refusal c.in_ok-domains.domains c.in_ok-names.names
    (map plain c.as_slice-statements.result.now) ≡ None
rules_pass c =
    ap (λ ds. rule_refusal ds c.in_ok-names.names (map plain c.as_slice-statements.result.now))
    (sym c.as_slice-2.ensures)
    ∙ ap (λ ns. rule_refusal c.as_slice-2.result.now ns
    (map plain c.as_slice-statements.result.now)) (sym c.as_slice-3.ensures)
    ∙ c.in_ok-test_rules.ensures

pub names_of-requires-clause-distinct : goal.names_of-requires-clause-distinct
names_of-requires-clause-distinct c =
    domains_different (map plain c.as_slice-statements.result.now)
    c.in_ok-test_declarations.ensures c.as_slice.result.now (c.as_slice.ensures
    ∙ c.in_ok-domains.ensures)

pub names_of-requires-clause-few : goal.names_of-requires-clause-few
names_of-requires-clause-few c =
    let few = domains_few (map plain c.as_slice-statements.result.now)
    c.in_ok-test_declarations.ensures c.as_slice.result.now (c.as_slice.ensures
    ∙ c.in_ok-domains.ensures) in
    omega arith

pub test_rules-requires : goal.test_rules-requires
test_rules-requires c = record {
  distinct =
      words_different (map plain c.as_slice-statements.result.now) c.in_ok-test_declarations.ensures
      c.as_slice-2.result.now (c.as_slice-2.ensures ∙ c.in_ok-domains.ensures)
      c.as_slice-3.result.now (names_lent (goal.at.test_rules-requires c).After-as_slice-3);
}

pub returns-in_err-test_rules-clause-exact : goal.returns-in_err-test_rules-clause-exact
returns-in_err-test_rules-clause-exact c =
    let same : c.from_residual-in_err-test_rules.result ≡ Err c.in_err-test_rules.field-0.0 =
    search (rules, c.from_residual-in_err-test_rules.ensures) in
    let refusal = refused_by_rule (map plain c.as_slice-statements.result.now) c.in-Some.plan
    c.in-Some.ensures c.in_ok-test_declarations.ensures
    c.as_slice-2.result.now (c.as_slice-2.ensures ∙ c.in_ok-domains.ensures)
    c.as_slice-3.result.now
    (names_lent (goal.at.returns-in_err-test_rules-clause-exact c).After-as_slice-3)
    c.in_err-test_rules.field-0.0 c.in_err-test_rules.ensures in
    subst (λ r. Answers r (checking (map plain c.args.syntax.now.statements))) (sym same)
    (subst (λ l. Answers (Err c.in_err-test_rules.field-0.0) (checking (map plain l)))
    c.as_slice-statements.ensures refusal)

pub returns-clause-exact : goal.returns-clause-exact
returns-clause-exact c =
    ap (λ l. checking (map plain l)) (sym c.as_slice-statements.ensures)
    ∙ accepted (map plain c.as_slice-statements.result.now) c.in-Some.plan c.in-Some.ensures
    c.in_ok-test_declarations.ensures
    c.in_ok-domains.domains c.in_ok-domains.ensures
    c.in_ok-names.names (names_declared (goal.at.returns-clause-exact c).After-as_slice-3)
    (rules_pass (goal.at.returns-clause-exact c).After-rules_of) c.in_ok-rules.rules
    c.in_ok-rules.ensures

pub returns-clause-sound : goal.returns-clause-sound
returns-clause-sound c =
    accepted_sound c.as_slice-statements.result.now
    (subst (λ l. length l < 2 ^ 32) (sym c.as_slice-statements.ensures) c.requires.few)
    (subst (AllOf IsSoundStatement) (sym c.as_slice-statements.ensures) c.requires.forms)
    (length-map c.as_slice-statements.result.now plain)
    c.in-Some.plan c.in-Some.ensures c.in_ok-test_declarations.ensures
    c.in_ok-domains.domains c.in_ok-domains.ensures
    c.in_ok-names.names (names_declared (goal.at.returns-clause-sound c).After-as_slice-3)
    (rules_pass (goal.at.returns-clause-sound c).After-rules_of) c.in_ok-rules.rules
    c.in_ok-rules.ensures
