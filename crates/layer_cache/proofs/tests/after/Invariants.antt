use Rattle.std.proofs.Common.{◌≡◌, [], ◌∷◌, Some, None, length}
use Rattle.layer_cache.specs.Shapes.{shapes}
use Rattle.layer_cache.proofs.tests.after.Given as goal

abbrev pub invariant-loop-call : goal.invariant-loop-call
invariant-loop-call l = (shapes l.cache.rows ≡ Some 2 ∷ None ∷ []) × (length l.cache.before ≡ 2)
