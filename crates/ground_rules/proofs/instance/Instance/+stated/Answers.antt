use Rattle.std.proofs.Common.{◌≡◌, IfOk, map, sym, ap, subst, ◌∙◌}
use Rattle.rule_forms.specs.Forms.{plain_tree}
use Rattle.ground_rules.specs.LentInstances.{instance_of}
use Rattle.ground_rules.proofs.StatedExpressions.{stated_of, union_stated, intersect_stated}
use Rattle.ground_rules.proofs.StatedExpressions.{complement_stated}
use Rattle.ground_rules.proofs.instance.Instance.+stated.Goals as goal

pub stated_tree-returns-in_ok-stated_trees-in-Union :
    goal.stated_tree-returns-in_ok-stated_trees-in-Union
stated_tree-returns-in_ok-stated_trees-in-Union t c =
    let i = instance_of c.args.self.now in
    union_stated i c.in_ok-stated_trees-in-Union.field-0 c.in-Union.members
    (c.in_ok-stated_trees-in-Union.ensures ∙ ap (map (stated_of i)) c.deref.ensures.value)
    ∙ sym (ap (stated_of i) c.in-Union.is)

pub stated_tree-returns-in_ok-stated_trees-in-Intersect :
    goal.stated_tree-returns-in_ok-stated_trees-in-Intersect
stated_tree-returns-in_ok-stated_trees-in-Intersect t c =
    let i = instance_of c.args.self.now in
    intersect_stated i c.in_ok-stated_trees-in-Intersect.field-0 c.in-Intersect.members
    (c.in_ok-stated_trees-in-Intersect.ensures ∙ ap (map (stated_of i))
    c.deref-in-Intersect.ensures.value)
    ∙ sym (ap (stated_of i) c.in-Intersect.is)

pub stated_tree-returns-in_ok-others-in-Complement :
    goal.stated_tree-returns-in_ok-others-in-Complement
stated_tree-returns-in_ok-others-in-Complement t c =
    let i = instance_of c.args.self.now in
    let first = c.in_ok-first-in-Complement.ensures ∙ ap (stated_of i)
    c.deref-in-Complement.ensures in
    let others = c.in_ok-others-in-Complement.ensures ∙ ap (map (stated_of i))
    c.deref-in-Complement-2.ensures.value in
    let both = complement_stated i c.in_ok-first-in-Complement.first
    c.in_ok-others-in-Complement.others c.in-Complement.first c.in-Complement.others first others
    ∙ sym (ap (stated_of i) c.in-Complement.is) in
    subst (λ e. IfOk c.complement_tree.result (λ tree. plain_tree tree ≡ e)) both
    c.complement_tree.ensures
