use Rattle.ground_rules.proofs.Soundness.{sound_program}
use Rattle.ground_rules.proofs.laws.grounded_is_sound.Goals as goal

pub returns : goal.returns
returns c = sound_program
