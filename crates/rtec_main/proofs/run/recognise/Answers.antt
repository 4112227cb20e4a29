use Rattle.std.proofs.Common.{◌≡◌, refl, sym, subst}
use Rattle.rt_base.specs.Outside.{with_bytes}
use Rattle.report_text.specs.Report.{report_text}
use Rattle.command_words.specs.Words.{Recognise}
use Rattle.rtec_main.specs.Script.{commands_of}
use Rattle.rtec_main.specs.Writes.{IsCut}
use Rattle.rtec_main.specs.Run.{Means}
use Rattle.rtec_main.specs.Tasks.{world_of, report_by}
use Rattle.rtec_main.proofs.Ending.{refused_means, unwritten_means}
use Rattle.rtec_main.proofs.run.recognise.Goals as goal

pub returns-in-Err-clause-means : goal.returns-in-Err-clause-means
returns-in-Err-clause-means g c =
    let taken = g.K.Sink.taken c.args.out.now in
    let writes = g.K.Sink.faults c.args.out.now in
    λ workers. refused_means report_by
    (world_of (g.I.Inputs.bytes c.args.inputs.now) (g.I.Inputs.faults c.args.inputs.now) taken
    writes)
    (world_of (g.I.Inputs.bytes c.read_job.new.inputs) (g.I.Inputs.faults c.read_job.new.inputs)
    taken writes)
    (Recognise c.args.description.now c.args.script.now workers) c.in-Err.status
    (c.in-Err.ensures.answer workers taken writes) (refl, refl)

pub returns-in-Err-clause-complete : goal.returns-in-Err-clause-complete
returns-in-Err-clause-complete g c =
    λ workers well. c.in-Err.ensures.complete workers (g.K.Sink.taken c.args.out.now)
    (g.K.Sink.faults c.args.out.now)

pub returns-in-Ok-write_report-clause-means : goal.returns-in-Ok-write_report-clause-means
returns-in-Ok-write_report-clause-means g c =
    λ workers. record {
      text = report_by c.in-Ok.job;
      is_text = c.in-Ok.ensures.answer workers (g.K.Sink.taken c.args.out.now)
          (g.K.Sink.faults c.args.out.now);
      taken = subst (λ placed. g.K.Sink.taken c.write_report.new.out ≡ with_bytes
          (report_text c.in-Ok.job.program (commands_of placed) c.in-Ok.job.script.ignored)
          (g.K.Sink.taken c.args.out.now)) c.as_slice-commands.ensures
          c.in-Ok-write_report.ensures.ok;
    }

pub returns-in-Ok-write_report-clause-complete : goal.returns-in-Ok-write_report-clause-complete
returns-in-Ok-write_report-clause-complete g c =
    λ workers well. c.in-Ok.ensures.complete workers (g.K.Sink.taken c.args.out.now)
    (g.K.Sink.faults c.args.out.now)

pub returns-clause-means : goal.returns-clause-means
returns-clause-means g c =
    let taken = g.K.Sink.taken c.args.out.now in
    let writes = g.K.Sink.faults c.args.out.now in
    let old = world_of (g.I.Inputs.bytes c.args.inputs.now) (g.I.Inputs.faults c.args.inputs.now)
    taken writes in
    let new = world_of (g.I.Inputs.bytes c.read_job.new.inputs)
    (g.I.Inputs.faults c.read_job.new.inputs) (g.K.Sink.taken c.write_report.new.out)
    (g.K.Sink.faults c.write_report.new.out) in
    λ workers. subst (Means old new (Recognise c.args.description.now c.args.script.now workers))
    (sym c.from.ensures)
    (unwritten_means old new (Recognise c.args.description.now c.args.script.now workers)
    (report_by c.in-Ok.job) (λ leaves. leaves)
    (c.in-Ok.ensures.answer workers taken writes)
    (subst (λ placed. IsCut taken (g.K.Sink.taken c.write_report.new.out)
    (report_text c.in-Ok.job.program (commands_of placed) c.in-Ok.job.script.ignored))
    c.as_slice-commands.ensures c.in-Err-write_report.ensures.err)
    c.in-Err-write_report.unwritten c.in-Err-write_report.ensures.blame)
