use Rattle.ground_types.proofs.Layers.{meaning_unique}
use Rattle.ground_types.proofs.laws.meaning_is_unique.Goals as goal

pub returns : goal.returns
returns c = meaning_unique
