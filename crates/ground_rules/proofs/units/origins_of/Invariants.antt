use Rattle.std.proofs.Common.{◌≡◌, [], map, flat_map, replicate}
use Rattle.std.specs.List.{fold, range_with_len}
use Rattle.ground_rules.specs.Clauses.{clause_of}
use Rattle.ground_rules.specs.Origins.{put, origin_unit, origins_at}
use Rattle.ground_rules.proofs.units.origins_of.Given as goal

abbrev pub invariant-loop-statement : goal.invariant-loop-statement
invariant-loop-statement l = l.origins ≡ fold (put (origin_unit (map clause_of l.clauses)))
    (replicate l.units []) (flat_map (origins_at (map clause_of l.clauses))
    (range_with_len 0 l.statement))
