use Rattle.std.proofs.Common.{◌≡◌, map, take}
use Rattle.ground_names.specs.EventNames.{inputs}
use Rattle.ground_names.proofs.events.inputs.Given as goal

abbrev pub invariant-loop-name : goal.invariant-loop-name
invariant-loop-name l = map (λ name. name.now) l.inputs.items ≡ inputs (take l.name-index l.names)
