use Rattle.std.proofs.Common.{ap, ◌∙◌, [], replicate}
use Rattle.ground_rules.proofs.ByLayer.{no_units, put_in_layer, in_no_layer}
use Rattle.ground_rules.specs.Grounded.{greatest_layer}
use Rattle.ground_rules.proofs.layers.layers_of.Goals.{then-layer-gt0+in_ok-push, else-layer-gt0}
use Rattle.ground_rules.proofs.layers.layers_of.Goals as goal

pub loop-number-init : goal.loop-number-init
loop-number-init c = c.in_ok-layers.ensures ∙ ap (λ n. replicate n []) c.greatest_layer.ensures
    ∙ no_units c.args.of_name.now (greatest_layer c.args.of_name.now)

pub loop-number-preserved : goal.loop-number-preserved
loop-number-preserved c =
    let before = c.loop-number in
    let unit = c.index-units-number in
    let layer = c.unit_layer-layer in
    elim c.if-layer-gt0.branch [
      | then-layer-gt0+in_ok-push w ↦ w.layers-is ∙ w.in_ok-push.ensures
          ∙ put_in_layer c.args.of_name.now c.args.units.now before.number unit.result
          c.loop-number-test.true unit.is before.layers _ before.invariant layer.result
          layer.ensures w.if-layer-gt0.true
      | else-layer-gt0 w ↦ w.layers-is
          ∙ in_no_layer c.args.of_name.now c.args.units.now before.number unit.result
          c.loop-number-test.true unit.is before.layers _ before.invariant layer.result
          layer.ensures w.if-layer-gt0.false
    ]
