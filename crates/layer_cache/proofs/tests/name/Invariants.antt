use Rattle.std.proofs.Common.{◌≡◌, vec_len}
use Rattle.layer_cache.proofs.tests.name.Given as goal

abbrev pub invariant-loop-value : goal.invariant-loop-value
invariant-loop-value l = vec_len l.words ≡ l.value-index
