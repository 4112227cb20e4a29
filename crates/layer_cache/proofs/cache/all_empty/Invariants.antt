use Rattle.std.proofs.Common.{◌≡◌, take, map}
use Rattle.layer_cache.specs.Cached.{empty_rows}
use Rattle.layer_cache.proofs.cache.all_empty.Given as goal

abbrev pub invariant-loop-unit : goal.invariant-loop-unit
invariant-loop-unit l = l.rows.items ≡ map (empty_rows l.program) (take l.unit-index l.units)
