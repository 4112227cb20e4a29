use Rattle.std.proofs.Common.{map, ap, ◌∙◌}
use Rattle.ground_rules.specs.Clauses.{clause_of}
use Rattle.ground_rules.specs.LentInstances.{rule_by}
use Rattle.ground_rules.proofs.ByOrigin.{one_given, none_given}
use Rattle.ground_rules.proofs.units.rules_of.Goals.{in-Some+in_ok-push, in_default}
use Rattle.ground_rules.proofs.units.rules_of.Goals as goal

pub loop-origin-preserved : goal.loop-origin-preserved
loop-origin-preserved c =
    let clauses = map clause_of c.args.clauses.now in
    let mine = c.args.mine.now in
    let loop = c.loop-origin in
    let by = c.in_ok-rule.ensures ∙ ap (λ i. rule_by c.args.part i i.clause.form)
    c.in_ok-instance.ensures in
    elim c.match-branch-3.branch [
      | in-Some+in_ok-push w ↦ one_given clauses mine loop.origin-index _ c.loop-origin-test.true
          (λ i. rule_by c.args.part i i.clause.form) c.in_ok-rule.field-0 by loop.rules.items
          loop.invariant
          w.in-Some.rule c.match-branch-3.rules.items w.in-Some.is (ap (λ v. v.items) w.rules-is
          ∙ w.in_ok-push.ensures.items)
      | in_default w ↦ ap (λ v. v.items) w.rules-is
          ∙ none_given clauses mine loop.origin-index _ c.loop-origin-test.true
          (λ i. rule_by c.args.part i i.clause.form) c.in_ok-rule.field-0 by loop.rules.items
          loop.invariant w.in_default.is
    ]
