use Rattle.ground_types.proofs.Inertia.{value_opens, value_goes_on}
use Rattle.ground_types.proofs.laws.inertia_law.Goals as goal

pub returns-clause-opens : goal.returns-clause-opens
returns-clause-opens c = value_opens

pub returns-clause-goes_on : goal.returns-clause-goes_on
returns-clause-goes_on c = value_goes_on
