use Rattle.std.proofs.Common.{◌≡◌, ◌++◌, length, filter_map, zip, take}
use Rattle.decl_known.specs.Rules.{variable_at}
use Rattle.decl_known.specs.Gathered.{places_of}
use Rattle.decl_known.proofs.variables.add_places_of.Given as goal

abbrev pub invariant-loop-term : goal.invariant-loop-term
invariant-loop-term l =
    places_of l.into.items ≡ places_of l.initial.into.items ++ filter_map (λ place.
    variable_at place.0 place.1) (take (length l.yielded) (zip l.terms l.domains))
