use Rattle.std.proofs.Common.{◌≡◌, ◌<◌, ◌^◌, ◌∙◌, refl, sym, subst}
use Rattle.std.proofs.lemmas.List.{map-id}
use Rattle.ground_types.specs.declared.entries.Command.{Command}
use Rattle.rt_base.specs.Outside.{with_bytes}
use Rattle.command_words.specs.Words.{Simulate}
use Rattle.rtec_main.specs.Coursing.{AreCommandsOf}
use Rattle.rtec_main.specs.Script.{entry_count, DoRun}
use Rattle.rtec_main.specs.Simulated.{asked_text}
use Rattle.rtec_main.specs.Writes.{IsCut}
use Rattle.rtec_main.specs.Run.{Means}
use Rattle.rtec_main.specs.Tasks.{world_of, simulated_by}
use Rattle.rtec_main.proofs.Ending.{refused_means, unwritten_means}
use Rattle.rtec_main.proofs.simulate.simulate.Goals as goal

pub returns-in-Err-clause-means : goal.returns-in-Err-clause-means
returns-in-Err-clause-means g c =
    let taken = g.K.Sink.taken c.args.out.now in
    let writes = g.K.Sink.faults c.args.out.now in
    λ workers. refused_means (simulated_by c.args.is_full)
    (world_of (g.I.Inputs.bytes c.args.inputs.now) (g.I.Inputs.faults c.args.inputs.now) taken
    writes)
    (world_of (g.I.Inputs.bytes c.read_workload.new.inputs)
    (g.I.Inputs.faults c.read_workload.new.inputs) taken writes)
    (Simulate c.args.description.now c.args.seed c.args.size workers c.args.is_full)
    c.in-Err.status (c.in-Err.ensures.answer workers c.args.is_full taken writes) (refl, refl)

pub returns-in-Err-clause-complete : goal.returns-in-Err-clause-complete
returns-in-Err-clause-complete g c =
    λ workers well. c.in-Err.ensures.complete workers c.args.is_full
    (g.K.Sink.taken c.args.out.now) (g.K.Sink.faults c.args.out.now)

pub write_report-requires-clause-of_program : goal.write_report-requires-clause-of_program
write_report-requires-clause-of_program g c κs within =
    subst (AreCommandsOf c.in-Ok.workload.program)
    (sym (map-id c.as_slice.result.now ∙ c.as_slice.ensures.value)) c.in-Ok.ensures.of_program

pub write_report-requires-clause-few : goal.write_report-requires-clause-few
write_report-requires-clause-few g c κs within =
    subst (λ commands. entry_count commands < 2 ^ 32)
    (sym (map-id c.as_slice.result.now ∙ c.as_slice.ensures.value)) c.in-Ok.ensures.few

pub write_report-requires-clause-do_run : goal.write_report-requires-clause-do_run
write_report-requires-clause-do_run g c κs within =
    subst (DoRun c.in-Ok.workload.program.plan)
    (sym (map-id c.as_slice.result.now ∙ c.as_slice.ensures.value)) c.in-Ok.ensures.do_run

pub returns-in-Ok-write_report-clause-means : goal.returns-in-Ok-write_report-clause-means
returns-in-Ok-write_report-clause-means g c =
    λ workers. record {
      text = simulated_by c.args.is_full c.in-Ok.workload;
      is_text = c.in-Ok.ensures.answer workers c.args.is_full (g.K.Sink.taken c.args.out.now)
          (g.K.Sink.faults c.args.out.now);
      taken = subst (λ commands. g.K.Sink.taken c.write_report.new.out ≡ with_bytes
          (asked_text c.args.is_full c.in-Ok.workload.program commands 0)
          (g.K.Sink.taken c.args.out.now)) (map-id c.as_slice.result.now ∙ c.as_slice.ensures.value)
          c.in-Ok-write_report.ensures.ok;
    }

pub returns-in-Ok-write_report-clause-complete : goal.returns-in-Ok-write_report-clause-complete
returns-in-Ok-write_report-clause-complete g c =
    λ workers well. c.in-Ok.ensures.complete workers c.args.is_full
    (g.K.Sink.taken c.args.out.now) (g.K.Sink.faults c.args.out.now)

pub returns-clause-means : goal.returns-clause-means
returns-clause-means g c =
    let taken = g.K.Sink.taken c.args.out.now in
    let writes = g.K.Sink.faults c.args.out.now in
    let full = c.args.is_full in
    let old = world_of (g.I.Inputs.bytes c.args.inputs.now) (g.I.Inputs.faults c.args.inputs.now)
    taken writes in
    let new = world_of (g.I.Inputs.bytes c.read_workload.new.inputs)
    (g.I.Inputs.faults c.read_workload.new.inputs) (g.K.Sink.taken c.write_report.new.out)
    (g.K.Sink.faults c.write_report.new.out) in
    λ workers. subst (Means old new
    (Simulate c.args.description.now c.args.seed c.args.size workers full))
    (sym c.from.ensures)
    (unwritten_means old new
    (Simulate c.args.description.now c.args.seed c.args.size workers full)
    (simulated_by full c.in-Ok.workload) (λ leaves. leaves)
    (c.in-Ok.ensures.answer workers full taken writes)
    (subst (λ commands. IsCut taken (g.K.Sink.taken c.write_report.new.out)
    (asked_text full c.in-Ok.workload.program commands 0))
    (map-id c.as_slice.result.now ∙ c.as_slice.ensures.value) c.in-Err-write_report.ensures.err)
    c.in-Err-write_report.unwritten c.in-Err-write_report.ensures.blame)
