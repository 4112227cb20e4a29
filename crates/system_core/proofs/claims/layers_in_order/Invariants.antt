use Rattle.std.proofs.Common.{◌≡◌, ◌<◌, ℕ, length, slice_get}
use Rattle.system_core.specs.Core.{units_of}
use Rattle.system_core.specs.Claiming.{IsInOrder}
use Rattle.system_core.proofs.claims.layers_in_order.Given as goal

abbrev pub invariant-loop-layer : goal.invariant-loop-layer
invariant-loop-layer l = record {
  long : length l.ordered.items ≡ l.layer-index;
  each : (layer : ℕ) → layer < l.layer-index
      → IsInOrder (units_of (slice_get l.layer-items layer))
      (units_of (slice_get l.ordered.items layer));
}
