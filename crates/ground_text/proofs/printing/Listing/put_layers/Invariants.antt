use Rattle.std.proofs.Common.{◌≡◌, ◌++◌, flat_map, take}
use Rattle.std.specs.List.{enumerate_from}
use Rattle.ground_rules.specs.Assignments.{instances}
use Rattle.ground_rules.specs.Grounded.{plain_program}
use Rattle.ground_rules.specs.Listed.{clauses_in}
use Rattle.ground_text.specs.GroundText.{layer_text}
use Rattle.ground_text.proofs.printing.Listing.put_layers.Given as goal

abbrev pub invariant-loop-place : goal.invariant-loop-place
invariant-loop-place l =
    l.out.items ≡ l.fn.out.items ++ flat_map (layer_text (plain_program l.self.program.now)
    (flat_map instances (clauses_in l.self.instances.now)))
    (take l.place (enumerate_from 1 l.self.program.now.layers))
