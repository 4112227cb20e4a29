-- Public contracts speak by this: the ground input events of a program, in order, each as its name
-- and its arguments.
use Rattle.std.specs.Prelude.{ℕ, List, [], map, flat_map, if◌then◌else◌}
use Rattle.ground_types.specs.Sound.{is_input, arguments_of}
use Rattle.ground_types.specs.declared.program.Domain.{Domain}
use Rattle.ground_types.specs.declared.program.Name.{Name}
use Rattle.ground_types.specs.declared.program.Program.{Program}

abbrev pub atoms_of_input : List Domain → Name → List (Name × List ℕ)
atoms_of_input domains name = if is_input name.kind then map (λ args. (name, args))
    (arguments_of domains name) else []

abbrev pub event_atoms : Program → List (Name × List ℕ)
event_atoms program = flat_map (atoms_of_input program.domains) program.names
