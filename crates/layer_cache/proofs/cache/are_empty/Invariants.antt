use Rattle.std.proofs.Common.{◌≡◌, [], take, replicate}
use Rattle.layer_cache.proofs.cache.are_empty.Given as goal

abbrev pub invariant-loop-row : goal.invariant-loop-row
invariant-loop-row l = take l.row-index l.rows ≡ replicate l.row-index []
