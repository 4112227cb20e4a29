use Rattle.std.proofs.Common.{◌≡◌, [], replicate}
use Rattle.layer_cache.proofs.cache.no_spans.Given as goal

abbrev pub invariant-loop-turn : goal.invariant-loop-turn
invariant-loop-turn l = l.rows.items ≡ replicate l._turn []
