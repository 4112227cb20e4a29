use Rattle.std.proofs.Common.{◌≡◌, ◌*◌, if◌then◌else◌, map, take, ap, ◌∙◌, arith}
use Rattle.ground_names.specs.Counted.{capped}
use Rattle.ground_rules.specs.Limits.{counts_as_rule, conditions_in}
use Rattle.ground_rules.specs.Clauses.{clause_of}
use Rattle.ground_rules.proofs.CountedClauses.{one_more, next_of, few_of}
use Rattle.ground_rules.proofs.limits.totals_of.Goals as goal

pub instances_in-requires : goal.instances_in-requires
instances_in-requires c =
    let few = few_of clause_of c.args.clauses.now c.loop-clause.clause-index c.clause-item.result
    c.loop-clause-test.true c.clause-item.is in
    omega (arith, few, c.requires)

pub loop-clause-preserved : goal.loop-clause-preserved
loop-clause-preserved c =
    let clause = clause_of c.clause-item.result in
    let count = c.in_ok-count.count in
    let rules : c.rules_among.result ≡ (if counts_as_rule clause.form then count else 0) =
    c.rules_among.ensures ∙ ap (λ f. if counts_as_rule f then count else 0) c.form-form.ensures
    in
    let conditions : c.saturating_mul-conditions.result
    ≡ capped (count * capped (conditions_in clause.form)) =
    c.saturating_mul-conditions.ensures
    ∙ ap (λ n. capped (count * n)) (c.in_ok-conditions_in.ensures
    ∙ ap (λ f. capped (conditions_in f)) c.form-form.ensures) in
    rw (
      next_of clause_of c.args.clauses.now c.loop-clause.clause-index c.clause-item.result
          c.loop-clause-test.true c.clause-item.is,
      c.saturating_add.ensures,
      c.saturating_add-in-loop-clause.ensures,
    )
    (one_more (map clause_of (take c.loop-clause.clause-index c.args.clauses.now)) clause
    c.loop-clause.totals.rules c.loop-clause.totals.conditions count c.loop-clause.invariant
    c.in_ok-count.ensures c.rules_among.result c.saturating_mul-conditions.result rules conditions)
