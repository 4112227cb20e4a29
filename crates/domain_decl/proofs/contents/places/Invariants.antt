use Rattle.std.proofs.Common.{◌≡◌, take, filter_map}
use Rattle.ground_types.specs.Words.{place_in}
use Rattle.domain_decl.proofs.contents.places.Given as goal

abbrev pub invariant-loop-arg : goal.invariant-loop-arg
invariant-loop-arg l = l.places.items ≡ filter_map (place_in l.fn.domains) (take l.arg-index l.args)
