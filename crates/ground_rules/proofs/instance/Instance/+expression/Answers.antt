use Rattle.std.proofs.Common.{◌≡◌, IfOk, map, sym, ap, ap₂, subst, ◌∙◌}
use Rattle.ground_rules.specs.Atoms.{Complement_is, plain_expr, all_of}
use Rattle.ground_rules.specs.LentInstances.{instance_of}
use Rattle.ground_rules.proofs.ExpressionMembers.{ground_tree, union_same, intersect_same}
use Rattle.ground_rules.proofs.ExpressionMembers.{ground_complement}
use Rattle.ground_rules.proofs.instance.Instance.+expression.Goals as goal

pub expression-returns-in_ok-expressions-in-Union :
    goal.expression-returns-in_ok-expressions-in-Union
expression-returns-in_ok-expressions-in-Union t c =
    let i = instance_of c.args.self.now in
    union_same i c.in_ok-expressions-in-Union.field-0 c.in-Union.members
    (c.in_ok-expressions-in-Union.ensures ∙ ap (map (ground_tree i)) c.deref.ensures.value)
    ∙ sym (ap (ground_tree i) c.in-Union.is)

pub expression-returns-in_ok-expressions-in-Intersect :
    goal.expression-returns-in_ok-expressions-in-Intersect
expression-returns-in_ok-expressions-in-Intersect t c =
    let i = instance_of c.args.self.now in
    intersect_same i c.in_ok-expressions-in-Intersect.field-0 c.in-Intersect.members
    (c.in_ok-expressions-in-Intersect.ensures ∙ ap (map (ground_tree i))
    c.deref-in-Intersect.ensures.value)
    ∙ sym (ap (ground_tree i) c.in-Intersect.is)

pub expression-returns-in_ok-others-in-Complement :
    goal.expression-returns-in_ok-others-in-Complement
expression-returns-in_ok-others-in-Complement t c =
    let i = instance_of c.args.self.now in
    let first = c.in_ok-first-in-Complement.ensures ∙ ap (ground_tree i)
    c.deref-in-Complement.ensures in
    let others = c.in_ok-others-in-Complement.ensures ∙ ap (map (ground_tree i))
    c.deref-in-Complement-2.ensures.value in
    let both = ap₂ (λ e es. Complement_is e (all_of es)) first others
    ∙ sym (ground_complement i c.in-Complement.first c.in-Complement.others)
    ∙ sym (ap (ground_tree i) c.in-Complement.is) in
    subst (λ e. IfOk c.complement_expr.result (λ expr. plain_expr expr ≡ e)) both
    c.complement_expr.ensures
