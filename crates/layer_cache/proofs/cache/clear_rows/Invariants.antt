use Rattle.std.proofs.Common.{◌≡◌, ◌++◌, map, take, drop}
use Rattle.layer_cache.specs.Shapes.{emptied}
use Rattle.layer_cache.proofs.cache.clear_rows.Given as goal

abbrev pub invariant-loop-unit : goal.invariant-loop-unit
invariant-loop-unit l = l.rows ≡ map emptied (take l.unit-index l.fn.rows) ++ drop l.unit-index
    l.fn.rows
