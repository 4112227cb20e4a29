use Rattle.std.proofs.Common.{◌<◌, ◌∙◌, ℕ, List, length, ap, arith}
use Rattle.ground_types.specs.declared.program.Program.{Program}
use Rattle.delay_revise.specs.Revising.{Revising}
use Rattle.delay_revise.proofs.Gathering.{on_err}
use Rattle.delay_revise.proofs.LayerWork.{one_more_worked, worked_most}
use Rattle.delay_revise.proofs.reviser.Reviser.work_layers.Given.{Over}
use Rattle.delay_revise.proofs.reviser.Reviser.work_layers.Goals.{After-work_layer}
use Rattle.delay_revise.proofs.reviser.Reviser.work_layers.Goals as goal

-- the layer is one of the program
within : (g : Over) (c : After-work_layer g)
    → c.loop-layer._layer < length c.args.self.now.program.layers
within g c =
    omega (
      arith,
      c.loop-layer-test.true,
      ap (λ (l : List (List ℕ)). length l) (c.as_slice-layers.ensures
          ∙ ap (λ (p : Program). p.layers) c.deref.ensures
          ∙ ap (λ (r : Revising). r.program.layers) c.self.view_is),
    )

pub returns-in_err-work_layer-clause-most : goal.returns-in_err-work_layer-clause-most
returns-in_err-work_layer-clause-most g c =
    let at = goal.at.returns-in_err-work_layer-clause-most g c in
    on_err c.from_residual.result
    (worked_most c.args.self.now c.args.steps.now c.loop-layer._layer c.loop-layer.self
    c.loop-layer.steps c.work_layer.new.steps c.loop-layer.invariant
    (within g at.After-work_layer) c.work_layer.ensures.most)

pub loop-layer-preserved : goal.loop-layer-preserved
loop-layer-preserved g c =
    let at = goal.at.loop-layer-preserved g c in
    one_more_worked c.args.self.now c.args.steps.now c.loop-layer._layer c.loop-layer.self
    c.work_layer.new.self c.loop-layer.steps c.work_layer.new.steps c.loop-layer.invariant
    (within g at.After-work_layer) c.in_ok-work_layer.ensures.done c.in_ok-work_layer.ensures.ok
    c.work_layer.ensures.parts
