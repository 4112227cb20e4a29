use Rattle.std.proofs.Common.{◌≡◌, ◌++◌, flat_map, map, take, slice_get}
use Rattle.ground_rules.specs.Grounded.{plain_unit}
use Rattle.ground_rules.specs.Listed.{listed_at}
use Rattle.ground_text.specs.GroundText.{numbered_text}
use Rattle.ground_text.proofs.printing.Listing.put_layer.Given as goal

abbrev pub invariant-loop-unit : goal.invariant-loop-unit
invariant-loop-unit l =
    l.out.items
    ≡ l.fn.out.items
    ++ flat_map (λ unit. numbered_text l.self.program.now.domains l.self.program.now.names l.layer
    (slice_get (map plain_unit l.self.program.now.units) unit)
    (listed_at l.self.instances.now unit))
    (take l.unit-index l.units)
