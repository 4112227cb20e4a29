use Rattle.std.proofs.Common.{length, nat_lt}
use Rattle.point_rule.proofs.Named.{of_conditions}
use Rattle.point_rule.proofs.touch.is_changed.Goals as goal

pub conditions_differ-requires-clause-units : goal.conditions_differ-requires-clause-units
conditions_differ-requires-clause-units c =
    rw c.as_slice.ensures (of_conditions (λ unit. nat_lt unit (length c.args.cache.now.rows))
    c.args.rule.now c.requires.rows)

pub conditions_differ-requires-clause-old_units : goal.conditions_differ-requires-clause-old_units
conditions_differ-requires-clause-old_units c =
    rw c.as_slice.ensures (of_conditions (λ unit. nat_lt unit (length c.args.cache.now.before))
    c.args.rule.now c.requires.old_rows)
