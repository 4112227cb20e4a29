use Rattle.std.proofs.Common.{◌≡◌, flat_map, take}
use Rattle.ground_types.specs.Words.{declaration}
use Rattle.decl_known.specs.Rules.{places_by}
use Rattle.decl_known.specs.Gathered.{mentions_of, places_of}
use Rattle.decl_known.proofs.variables.gather_places.Given as goal

abbrev pub invariant-loop-mention : goal.invariant-loop-mention
invariant-loop-mention l =
    places_of l.into.items ≡ flat_map (λ m. places_by m.atom.args (declaration l.known.names.now
    m.atom.name)) (mentions_of (take l.mention-index l.mentions))
