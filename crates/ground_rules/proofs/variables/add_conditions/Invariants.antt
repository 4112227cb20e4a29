use Rattle.std.proofs.Common.{◌≡◌, map, flat_map, fold, take}
use Rattle.ground_rules.specs.Assignments.{variables_in, with_word}
use Rattle.ground_rules.proofs.variables.add_conditions.Given as goal

abbrev pub invariant-loop-body : goal.invariant-loop-body
invariant-loop-body l =
    map (λ other. other.now) l.into.items ≡ fold with_word
    (map (λ other. other.now) l.initial.into.items)
    (flat_map variables_in (take l.body-index l.bodies))
