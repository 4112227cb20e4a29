use Rattle.std.proofs.Common.{◌≡◌, ◌++◌, length, take, codes}
use Rattle.std.specs.Prelude.{flat_map, zip}
use Rattle.ground_types.specs.Words.{entity_word}
use Rattle.text_pieces.proofs.atoms.put_further.Given as goal

abbrev pub invariant-loop-domain : goal.invariant-loop-domain
invariant-loop-domain l =
    l.out.items ≡ l.fn.out.items ++ flat_map (λ place. codes "," ++ entity_word l.domains place)
    (take (length l.yielded) (zip l.places l.args))
