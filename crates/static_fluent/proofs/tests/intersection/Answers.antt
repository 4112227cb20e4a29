use Rattle.std.proofs.Common.{nat_lt, ◌∙◌}
use Rattle.static_fluent.proofs.Members.{union_units, intersect_has}
use Rattle.static_fluent.proofs.tests.intersection.Goals as goal

pub returns-clause-rows : goal.returns-clause-rows
returns-clause-rows c = union_units (λ unit. nat_lt unit 3) c.args.members ∙ c.requires.rows

pub returns-clause-members : goal.returns-clause-members
returns-clause-members c = intersect_has c.args.members c.requires.some c.requires.members
