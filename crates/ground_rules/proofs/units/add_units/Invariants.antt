use Rattle.std.proofs.Common.{◌≡◌, ◌++◌, map, flat_map, take}
use Rattle.ground_types.specs.Sound.{arguments_of}
use Rattle.ground_rules.specs.Clauses.{clause_of}
use Rattle.ground_rules.specs.Assignments.{instances}
use Rattle.ground_rules.specs.Grounded.{plain_unit}
use Rattle.ground_rules.proofs.ByOrigin.{units_among}
use Rattle.ground_rules.proofs.units.add_units.Given as goal

abbrev pub invariant-loop-number : goal.invariant-loop-number
invariant-loop-number l = map plain_unit l.units.items ≡ map plain_unit l.initial.units.items
    ++ units_among (flat_map instances (map clause_of l.clauses)) l.place l.name
    (take l.number (arguments_of l.domains l.name))
