use Rattle.std.proofs.Common.{nat_lt, ap, ◌∙◌}
use Rattle.std.specs.Cmp.Derive.{both_true}
use Rattle.static_fluent.specs.Constructs.{has_members, has_rows}
use Rattle.static_fluent.proofs.Members.{complement_units, complement_members}
use Rattle.static_fluent.proofs.tests.complement.Goals as goal

pub returns-clause-rows : goal.returns-clause-rows
returns-clause-rows c =
    complement_units (λ unit. nat_lt unit 3) c.in_ok-new.field-0 c.args.others
    ∙ both_true (ap (has_rows 3) c.in_ok-new.ensures.ok ∙ c.requires.first_rows) c.requires.rows

pub returns-clause-members : goal.returns-clause-members
returns-clause-members c =
    complement_members c.in_ok-new.field-0 c.args.others
    ∙ both_true (ap has_members c.in_ok-new.ensures.ok ∙ c.requires.first_members)
    c.requires.members
