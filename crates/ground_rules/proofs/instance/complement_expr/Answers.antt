use Rattle.std.proofs.Common.{map, ap, ◌∙◌}
use Rattle.ground_rules.specs.Atoms.{Complement_is, all_of, plain_expr}
use Rattle.ground_rules.proofs.ExpressionMembers.{complement_of}
use Rattle.ground_rules.proofs.instance.complement_expr.Goals as goal

pub returns : goal.returns
returns c =
    complement_of c.in_ok-first.first c.args.others
    ∙ ap (λ e. Complement_is (plain_expr e) (all_of (map plain_expr c.args.others.items)))
    c.in_ok-first.ensures.ok
