use Rattle.std.proofs.Common.{◌≡◌, map, find, take}
use Rattle.std.specs.Str.{bytes_eq}
use Rattle.decl_known.specs.Gathered.{places_of}
use Rattle.ground_rules.specs.Assignments.{number_at}
use Rattle.ground_rules.proofs.clause.domains_of.Given as goal

abbrev pub invariant-loop-variable : goal.invariant-loop-variable
invariant-loop-variable l =
    l.domains.items ≡ map (λ variable. number_at (find (λ place. bytes_eq place.0 variable.now)
    (places_of l.places))) (take l.variable-index l.variables)
