use Rattle.std.proofs.Common.{◌∷◌, [], map, filter_map, ap, ◌∙◌}
use Rattle.std.proofs.lemmas.List.{map-append, take_all}
use Rattle.std.specs.Option.{option_map}
use Rattle.ground_rules.specs.Clauses.{clause_of}
use Rattle.ground_rules.specs.Atoms.{Union_is, all_of, plain_expr}
use Rattle.ground_rules.specs.Grounded.{expression_by}
use Rattle.ground_rules.specs.Origins.{instance_at}
use Rattle.ground_rules.proofs.ByOrigin.{one_given, none_given}
use Rattle.ground_rules.proofs.PlainMembers.{plain_union}
use Rattle.ground_rules.proofs.units.union_over.Goals.{in-Some+in_ok-push, in_default}
use Rattle.ground_rules.proofs.units.union_over.Goals as goal

pub loop-origin-preserved : goal.loop-origin-preserved
loop-origin-preserved c =
    let clauses = map clause_of c.args.clauses.now in
    let mine = c.args.mine.now in
    let loop = c.loop-origin in
    let by = c.in_ok-expr.ensures ∙ ap (λ i. expression_by i i.clause.form)
    c.in_ok-instance.ensures in
    let held = map plain_expr loop.members.items in
    elim c.match-branch-3.branch [
      | in-Some+in_ok-push w ↦ one_given clauses mine loop.origin-index _ c.loop-origin-test.true
          (λ i. expression_by i i.clause.form) (option_map plain_expr c.in_ok-expr.field-0) by held
          loop.invariant
          (plain_expr w.in-Some.expr) (map plain_expr c.match-branch-3.members.items)
          (ap (option_map plain_expr) w.in-Some.is)
          (ap (λ v. map plain_expr v.items) w.members-is
          ∙ ap (map plain_expr) w.in_ok-push.ensures.items
          ∙ map-append plain_expr loop.members.items (w.in-Some.expr ∷ []))
      | in_default w ↦ ap (λ v. map plain_expr v.items) w.members-is
          ∙ none_given clauses mine loop.origin-index _ c.loop-origin-test.true
          (λ i. expression_by i i.clause.form) (option_map plain_expr c.in_ok-expr.field-0) by
          held loop.invariant
          (ap (option_map plain_expr) w.in_default.is)
    ]

pub returns : goal.returns
returns c =
    plain_union c.loop-origin.members
    ∙ ap (λ es. Union_is (all_of es)) (c.loop-origin.invariant
    ∙ ap (λ os. filter_map (λ i. expression_by i i.clause.form)
    (map (instance_at (map clause_of c.args.clauses.now)) os))
    (take_all c.loop-origin.origin-index c.args.mine.now c.loop-origin-test.false))
