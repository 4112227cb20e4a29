use Rattle.ground_rules.proofs.Soundness.{sound_answer}
use Rattle.ground_rules.proofs.grounding.ground.Goals as goal

pub returns-clause-sound : goal.returns-clause-sound
returns-clause-sound c = sound_answer c.args.checked.now c.args.layers.now.of_name
    c.requires.checked c.requires.layers c.program_of.result c.program_of.ensures
