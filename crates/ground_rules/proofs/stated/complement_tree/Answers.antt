use Rattle.std.proofs.Common.{map, ap, ◌∙◌}
use Rattle.rule_forms.specs.Forms.{Complement_of, plain_tree, expressions}
use Rattle.rule_forms.proofs.Trees.{plain_complement}
use Rattle.ground_rules.proofs.stated.complement_tree.Goals as goal

pub returns : goal.returns
returns c =
    plain_complement c.in_ok-first.first c.args.others
    ∙ ap (λ e. Complement_of (plain_tree e) (expressions (map plain_tree c.args.others.items)))
    c.in_ok-first.ensures.ok
