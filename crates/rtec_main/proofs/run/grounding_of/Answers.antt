use Rattle.std.proofs.Common.{rules}
use Rattle.rtec_main.specs.Tasks.{world_of}
use Rattle.rtec_main.proofs.Running.{grounding_given}
use Rattle.rtec_main.proofs.Concluding.{refused_grounding_concludes, grounding_concludes}
use Rattle.rtec_main.proofs.run.grounding_of.Goals as goal

pub returns-in_err-described-clause-complete : goal.returns-in_err-described-clause-complete
returns-in_err-described-clause-complete g c =
    refused_grounding_concludes (g.I.Inputs.bytes c.args.inputs.now)
    (g.I.Inputs.faults c.args.inputs.now) (g.I.Inputs.faults c.read_description.new.inputs)
    c.args.description.now c.in_err-described.field-0.0 c.in_err-described.ensures.err
    c.from_residual.result (search (rules, c.from_residual.ensures))

pub returns-clause-answer : goal.returns-clause-answer
returns-clause-answer g c =
    λ taken writes.
    grounding_given (world_of (g.I.Inputs.bytes c.args.inputs.now)
    (g.I.Inputs.faults c.args.inputs.now) taken writes)
    c.args.description.now c.in_ok-described.described c.in_ok-described.ensures.ok _
    (c.in_ok-ground_text.ensures c.in_ok-described.described.layers.of_name
    c.in_ok-described.ensures.sound.is_program)

pub returns-clause-complete : goal.returns-clause-complete
returns-clause-complete g c =
    grounding_concludes (g.I.Inputs.bytes c.args.inputs.now)
    (g.I.Inputs.faults c.args.inputs.now) (g.I.Inputs.faults c.read_description.new.inputs)
    c.args.description.now c.in_ok-described.described c.in_ok-described.ensures.ok
    c.in_ok-ground_text.field-0
