use Rattle.std.proofs.Common.{◌≡◌, ◌++◌, flat_map, take}
use Rattle.ground_rules.specs.Listed.{listed_at}
use Rattle.ground_text.specs.GroundText.{instance_text}
use Rattle.ground_text.proofs.printing.put_instances.Given as goal

abbrev pub invariant-loop-place : goal.invariant-loop-place
invariant-loop-place l = l.out.items ≡ l.fn.out.items ++ flat_map instance_text
    (take l.place (listed_at l.instances l.unit))
