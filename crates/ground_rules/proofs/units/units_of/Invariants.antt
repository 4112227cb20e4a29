use Rattle.std.proofs.Common.{◌≡◌, map, flat_map, take}
use Rattle.std.specs.List.{enumerate_from}
use Rattle.ground_rules.specs.Clauses.{clause_of}
use Rattle.ground_rules.specs.Assignments.{instances}
use Rattle.ground_rules.specs.Grounded.{plain_unit, units_by}
use Rattle.ground_rules.proofs.units.units_of.Given as goal

abbrev pub invariant-loop-place : goal.invariant-loop-place
invariant-loop-place l = map plain_unit l.units.items
    ≡ flat_map (units_by l.domains (flat_map instances (map clause_of l.clauses)))
    (enumerate_from 0 (take l.place l.names))
