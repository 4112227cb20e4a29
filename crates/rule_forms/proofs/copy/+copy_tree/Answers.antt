use Rattle.std.proofs.Common.{map, ap, sym, ◌∙◌}
use Rattle.rule_forms.specs.Forms.{plain_tree}
use Rattle.rule_forms.proofs.Copies.{same_complement}
use Rattle.rule_forms.proofs.copy.+copy_tree.Goals as goal

pub copy_tree-returns-in_ok-others-in-Complement : goal.copy_tree-returns-in_ok-others-in-Complement
copy_tree-returns-in_ok-others-in-Complement t c =
    let first = ap plain_tree c.in_ok-first-in-Complement.ensures.ok
    ∙ c.in_ok-copy_tree-in-Complement.ensures ∙ ap plain_tree c.deref.ensures in
    let others = c.in_ok-others-in-Complement.ensures ∙ ap (λ members. map plain_tree members)
    c.as_slice-in-Complement.ensures.value in
    same_complement c.in_ok-first-in-Complement.first c.in-Complement.first
    c.in_ok-others-in-Complement.others c.in-Complement.others first others
    ∙ ap plain_tree (sym c.in-Complement.is)
