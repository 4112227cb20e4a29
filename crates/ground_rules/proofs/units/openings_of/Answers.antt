use Rattle.std.proofs.Common.{map, ap, ◌∙◌}
use Rattle.ground_rules.specs.Clauses.{clause_of}
use Rattle.ground_rules.specs.Grounded.{opening_by}
use Rattle.ground_rules.proofs.ByOrigin.{one_given, none_given}
use Rattle.ground_rules.proofs.units.openings_of.Goals.{in-Some+in_ok-push, in_default}
use Rattle.ground_rules.proofs.units.openings_of.Goals as goal

pub loop-origin-preserved : goal.loop-origin-preserved
loop-origin-preserved c =
    let clauses = map clause_of c.args.clauses.now in
    let mine = c.args.mine.now in
    let loop = c.loop-origin in
    let by = c.opening.ensures ∙ ap (λ i. opening_by i i.clause.form) c.in_ok-instance.ensures in
    elim c.match-opening.branch [
      | in-Some+in_ok-push w ↦ one_given clauses mine loop.origin-index _ c.loop-origin-test.true
          (λ i. opening_by i i.clause.form) c.opening.result by loop.values.items loop.invariant
          w.in-Some.value c.match-opening.values.items w.in-Some.is (ap (λ v. v.items) w.values-is
          ∙ w.in_ok-push.ensures.items)
      | in_default w ↦ ap (λ v. v.items) w.values-is
          ∙ none_given clauses mine loop.origin-index _ c.loop-origin-test.true
          (λ i. opening_by i i.clause.form) c.opening.result by loop.values.items loop.invariant
          w.in_default.is
    ]
