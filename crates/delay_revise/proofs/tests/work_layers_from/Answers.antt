use Rattle.std.proofs.Common.{◌≡◌, ◌∙◌, List, ℕ, length, ap, arith}
use Rattle.ground_types.specs.declared.program.Program.{Program}
use Rattle.delay_revise.proofs.Orders.{layer_ready, layer_units, layer_within}
use Rattle.delay_revise.proofs.tests.work_layers_from.Given.{Over}
use Rattle.delay_revise.proofs.tests.work_layers_from.Goals.{After-as_slice-layer-items}
use Rattle.delay_revise.proofs.tests.work_layers_from.Goals as goal

-- the layers that are read are those of the program
read : (g : Over) (c : After-as_slice-layer-items g)
    → c.as_slice-layer-items.result.now ≡ c.args.reviser.now.program.layers
read g c = c.as_slice-layer-items.ensures ∙ ap (λ (p : Program). p.layers) c.requires.program

pub work_layer_from-requires-clause-ready : goal.work_layer_from-requires-clause-ready
work_layer_from-requires-clause-ready g c =
    layer_ready c.args.reviser.now c.loop-layer.reviser c.loop-layer.layer-index c.requires.ready
    c.loop-layer.invariant.same c.loop-layer.invariant.size

pub work_layer_from-requires-clause-units : goal.work_layer_from-requires-clause-units
work_layer_from-requires-clause-units g c =
    let at = goal.at.work_layer_from-requires-clause-units g c in
    c.as_slice.ensures
    ∙ layer_units c.args.reviser.now c.loop-layer.reviser c.loop-layer.layer-index
    c.as_slice-layer-items.result.now c.layer-item.result c.loop-layer.invariant.same
    (read g at.After-as_slice-layer-items) c.loop-layer-test.true c.layer-item.is

pub work_layer_from-requires-clause-layer : goal.work_layer_from-requires-clause-layer
work_layer_from-requires-clause-layer g c =
    let at = goal.at.work_layer_from-requires-clause-layer g c in
    layer_within c.args.reviser.now c.loop-layer.reviser c.loop-layer.layer-index
    c.loop-layer.invariant.same
    (omega (
      arith,
      c.loop-layer-test.true,
      ap (λ (l : List (List ℕ)). length l) (read g at.After-as_slice-layer-items),
    ))
