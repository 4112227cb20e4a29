use Rattle.ground_types.proofs.Runs.{rows_unique}
use Rattle.ground_types.proofs.laws.rows_are_unique.Goals as goal

pub returns : goal.returns
returns c = λ test w q one two le. rows_unique test w q one two
