use Rattle.std.proofs.Common.{◌≡◌, map}
use Rattle.std.specs.List.{fold}
use Rattle.ground_rules.specs.Clauses.{clause_of}
use Rattle.ground_rules.specs.Origins.{put, origin_unit, first_origins}
use Rattle.ground_rules.proofs.units.add_origins.Given as goal

abbrev pub invariant-loop-number : goal.invariant-loop-number
invariant-loop-number l = l.origins ≡ fold (put (origin_unit (map clause_of l.clauses)))
    l.initial.origins (first_origins (map clause_of l.clauses) l.statement l.number)
