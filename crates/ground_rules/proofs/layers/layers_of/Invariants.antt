use Rattle.std.proofs.Common.{◌≡◌, map, take}
use Rattle.std.specs.List.{range_with_len}
use Rattle.ground_rules.specs.Grounded.{plain_unit, greatest_layer, units_in_layer}
use Rattle.ground_rules.proofs.layers.layers_of.Given as goal

abbrev pub invariant-loop-number : goal.invariant-loop-number
invariant-loop-number l = l.layers ≡ map
    (units_in_layer l.of_name (map plain_unit (take l.number l.units)))
    (range_with_len 1 (greatest_layer l.of_name))
