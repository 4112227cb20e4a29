use Rattle.ground_types.proofs.Points.{points_unique}
use Rattle.ground_types.proofs.laws.points_are_unique.Goals as goal

pub returns : goal.returns
returns c = points_unique
