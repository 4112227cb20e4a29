use Rattle.std.proofs.Common.{◌≡◌, take}
use Rattle.std.specs.List.{find, range_with_len}
use Rattle.ground_types.specs.Members.{contains}
use Rattle.ground_rules.proofs.units.first_given.Given as goal

abbrev pub invariant-loop-value : goal.invariant-loop-value
invariant-loop-value l = l.least ≡ find (contains (take l.value-index l.given))
    (range_with_len 0 l.values)
