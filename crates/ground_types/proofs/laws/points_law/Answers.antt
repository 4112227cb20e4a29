use Rattle.ground_types.proofs.Points.{points_are}
use Rattle.ground_types.proofs.laws.points_law.Goals as goal

pub returns : goal.returns
returns c = points_are
