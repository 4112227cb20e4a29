use Rattle.std.proofs.Common.{length, nat_lt}
use Rattle.point_rule.proofs.Named.{of_conditions}
use Rattle.point_rule.proofs.eval.eval_at.Goals as goal

pub conditions_hold-requires-clause-units : goal.conditions_hold-requires-clause-units
conditions_hold-requires-clause-units g c =
    rw c.as_slice.ensures (of_conditions (λ unit. nat_lt unit (length c.args.cache.now.rows))
    c.args.rule.now c.requires.rows)
