use Rattle.ground_types.proofs.Layers.{layers_are_meaning}
use Rattle.ground_types.proofs.laws.recognition_is_meaning.Goals as goal

pub returns : goal.returns
returns c = layers_are_meaning
