-- How many units and layers the program of a description has.
use Rattle.std.proofs.Common.{◌≡◌, ℕ, List, length, ◌∙◌}
use Rattle.std.specs.List.{range_with_len}
use Rattle.std.proofs.lemmas.List.{length-map}
use Rattle.std.proofs.lemmas.List.FromFn.{length-range_with_len}
use Rattle.ground_types.specs.declared.program.Domain.{Domain}
use Rattle.ground_types.specs.declared.program.Name.{Name}
use Rattle.ground_names.specs.Numbers.{numbered}
use Rattle.ground_rules.specs.Assignments.{Instance}
use Rattle.ground_rules.specs.Grounded.{PlainUnit, units_of, greatest_layer, units_in_layer}
use Rattle.ground_rules.specs.Grounded.{layers_of}
use Rattle.ground_rules.specs.Limits.{unit_count}
use Rattle.ground_rules.proofs.RuleCounts.{length_from}

-- each argument list of a name that is no input event is a unit
pub units_counted : (domains : List Domain) (all : List Instance) (names : List Name)
    → length (units_of domains (numbered domains 0 0 names) all) ≡ unit_count domains names
units_counted domains all names = length_from domains all names 0 0 0

-- there are as many layers as the greatest says
pub layers_counted : (of_name : List ℕ) (units : List PlainUnit) → length (layers_of of_name units)
    ≡ greatest_layer of_name
layers_counted of_name units = length-map (range_with_len 1 (greatest_layer of_name))
    (units_in_layer of_name units) ∙ length-range_with_len 1 (greatest_layer of_name)
