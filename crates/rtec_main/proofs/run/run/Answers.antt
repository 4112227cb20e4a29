use Rattle.std.proofs.Common.{◌≡◌, ◌∙◌, ap, sym, subst}
use Rattle.std.specs.Prelude.{option_map}
use Rattle.command_words.specs.Words.{texts, plain_task, task_of}
use Rattle.rtec_main.specs.Run.{MeansOfWords, Completes}
use Rattle.rtec_main.specs.Tasks.{world_of, IsSized}
use Rattle.rtec_main.proofs.Asked.{words_sized}
use Rattle.rtec_main.proofs.Ending.{no_memory_means, no_memory_completes}
use Rattle.rtec_main.proofs.run.run.Given.{Over}
use Rattle.rtec_main.proofs.run.run.Goals.{In-Ok-task_of}
use Rattle.rtec_main.proofs.run.run.Goals as goal

pub returns-in-Err-clause-status : goal.returns-in-Err-clause-status
returns-in-Err-clause-status g c =
    no_memory_means (world_of (g.I.Inputs.bytes c.args.inputs.now)
    (g.I.Inputs.faults c.args.inputs.now) (g.K.Sink.taken c.args.out.now)
    (g.K.Sink.faults c.args.out.now)) (task_of c.args.words.now)

pub returns-in-Err-clause-complete : goal.returns-in-Err-clause-complete
returns-in-Err-clause-complete g c =
    no_memory_completes (world_of (g.I.Inputs.bytes c.args.inputs.now)
    (g.I.Inputs.faults c.args.inputs.now) (g.K.Sink.taken c.args.out.now)
    (g.K.Sink.faults c.args.out.now)) (task_of c.args.words.now)

-- what is asked for by the words
asked_by : (g : Over) (c : In-Ok-task_of g)
    → option_map plain_task c.in-Ok-task_of.asked ≡ task_of c.args.words.now
asked_by g c =
    c.in-Ok-task_of.ensures
    ∙ ap (λ words. task_of (texts words)) c.as_slice.ensures.value
    ∙ ap task_of c.in-Ok.ensures.is

pub perform-requires-clause-sized : goal.perform-requires-clause-sized
perform-requires-clause-sized g c κs within =
    subst IsSized (sym (asked_by g (goal.at.perform-requires-clause-sized g c).In-Ok-task_of))
    (words_sized c.args.words.now)

pub returns-clause-complete : goal.returns-clause-complete
returns-clause-complete g c =
    no_memory_completes (world_of (g.I.Inputs.bytes c.args.inputs.now)
    (g.I.Inputs.faults c.args.inputs.now) (g.K.Sink.taken c.args.out.now)
    (g.K.Sink.faults c.args.out.now)) (task_of c.args.words.now)
