use Rattle.std.proofs.Common.{ℕ, Vec, refl}
use Rattle.std.specs.declared.alloc.Global.{Global}
use Rattle.command_words.specs.Words.{Ground}
use Rattle.rtec_main.specs.Tasks.{world_of}
use Rattle.rtec_main.proofs.Ending.{refused_means}
use Rattle.rtec_main.proofs.run.ground.Goals as goal

pub returns-in-Err-clause-means : goal.returns-in-Err-clause-means
returns-in-Err-clause-means g c =
    let taken = g.K.Sink.taken c.args.out.now in
    let writes = g.K.Sink.faults c.args.out.now in
    refused_means (λ (text : Vec ℕ Global). text.items)
    (world_of (g.I.Inputs.bytes c.args.inputs.now) (g.I.Inputs.faults c.args.inputs.now) taken
    writes)
    (world_of (g.I.Inputs.bytes c.grounding_of.new.inputs)
    (g.I.Inputs.faults c.grounding_of.new.inputs) taken writes)
    (Ground c.args.description.now) c.in-Err.status (c.in-Err.ensures.answer taken writes)
    (refl, refl)

pub returns-in-Err-clause-complete : goal.returns-in-Err-clause-complete
returns-in-Err-clause-complete g c =
    λ well. c.in-Err.ensures.complete (g.K.Sink.taken c.args.out.now)
    (g.K.Sink.faults c.args.out.now)

pub returns-in-Ok-write_all-clause-complete : goal.returns-in-Ok-write_all-clause-complete
returns-in-Ok-write_all-clause-complete g c =
    λ well. c.in-Ok.ensures.complete (g.K.Sink.taken c.args.out.now)
    (g.K.Sink.faults c.args.out.now)
