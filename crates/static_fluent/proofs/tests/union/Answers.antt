use Rattle.std.proofs.Common.{nat_lt, ◌∙◌}
use Rattle.static_fluent.proofs.Members.{union_units, union_members}
use Rattle.static_fluent.proofs.tests.union.Goals as goal

pub returns-clause-rows : goal.returns-clause-rows
returns-clause-rows c = union_units (λ unit. nat_lt unit 3) c.args.members ∙ c.requires.rows

pub returns-clause-members : goal.returns-clause-members
returns-clause-members c = union_members c.args.members ∙ c.requires.members
