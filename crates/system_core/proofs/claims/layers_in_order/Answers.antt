use Rattle.std.proofs.Common.{◌∙◌, ◌∷◌, eqb, List, ℕ, [], Some, slice_get, length, refl, sym, subst}
use Rattle.std.proofs.Common.{ap, arith}
use Rattle.std.specs.List.{IsDistinct}
use Rattle.std.proofs.lemmas.List.{length-append}
use Rattle.std.proofs.lemmas.Option.{slice_get_read}
use Rattle.system_core.specs.Claiming.{IsInOrder}
use Rattle.system_core.proofs.Ordered.{distinct_at, in_order_more, in_order_all}
use Rattle.system_core.proofs.claims.layers_in_order.Goals as goal

pub in_order-requires : goal.in_order-requires
in_order-requires c =
    subst (IsDistinct eqb) (sym c.as_slice.ensures)
    (distinct_at c.args.program.now [] c.args.program.now.layers c.loop-layer.layer-index
    (Some c.layer-item.result) c.requires.sound.layers.order
    (ap (λ (l : List (List ℕ)). slice_get l c.loop-layer.layer-index)
    (sym c.as_slice-layer-items.ensures)
    ∙ slice_get_read c.as_slice-layer-items.result.now (length c.as_slice-layer-items.result.now)
    c.loop-layer.layer-index c.layer-item.result refl c.loop-layer-test.true c.layer-item.is))

pub loop-layer-preserved : goal.loop-layer-preserved
loop-layer-preserved c =
    rw c.in_ok-push.ensures.items (record {
      long = omega (
        arith,
        length-append c.loop-layer.ordered.items (c.in_ok-in_order.field-0 ∷ []),
        c.loop-layer.invariant.long,
      );
      each = in_order_more c.as_slice-layer-items.result.now c.loop-layer.ordered.items
          c.loop-layer.layer-index c.layer-item.result c.in_ok-in_order.field-0
          c.loop-layer.invariant.long
          (slice_get_read c.as_slice-layer-items.result.now
          (length c.as_slice-layer-items.result.now) c.loop-layer.layer-index
          c.layer-item.result refl c.loop-layer-test.true c.layer-item.is)
          (subst (λ (l : List ℕ). IsInOrder l c.in_ok-in_order.field-0) c.as_slice.ensures
          c.in_ok-in_order.ensures) c.loop-layer.invariant.each;
    })

pub returns : goal.returns
returns c =
    rw (c.of.ensures, ← c.as_slice-layer-items.ensures)
    (in_order_all c.as_slice-layer-items.result.now c.loop-layer.ordered.items
    c.loop-layer.layer-index c.loop-layer.invariant.long c.loop-layer-test.false
    c.loop-layer.invariant.each)
