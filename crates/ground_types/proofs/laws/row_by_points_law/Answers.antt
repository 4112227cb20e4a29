use Rattle.ground_types.proofs.Rows.{row_from_points}
use Rattle.ground_types.proofs.laws.row_by_points_law.Goals as goal

pub returns : goal.returns
returns c = row_from_points
