use Rattle.std.proofs.Common.{◌∙◌, ap}
use Rattle.ground_names.specs.EventNames.{inputs}
use Rattle.ground_names.proofs.SmallNumbers.{sound_small}
use Rattle.ground_names.proofs.events.EventNames.new.Goals as goal

pub invariant_of-result : goal.invariant_of-result
invariant_of-result c = (
  c.requires.sound.numbering,
  sound_small c.args.program.now c.requires.sound,
  c.requires.domains,
  c.in_ok-names.ensures ∙ ap inputs c.as_slice.ensures,
)
