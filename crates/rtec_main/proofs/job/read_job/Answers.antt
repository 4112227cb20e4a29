use Rattle.std.proofs.Common.{◌≤◌, ap, sym, subst, rules}
use Rattle.std.specs.Prelude.{IfSome}
use Rattle.ground_types.specs.declared.plan.Plan.{Plan}
use Rattle.ground_types.specs.declared.program.Program.{Program}
use Rattle.ground_rules.specs.Grounded.{PlainProgram}
use Rattle.report_text.specs.Report.{report_text}
use Rattle.report_text.specs.Printed.{IsCounted}
use Rattle.rtec_main.specs.Script.{commands_of, DoRun, IsScriptOf}
use Rattle.rtec_main.specs.Reads.{IsWhyNoScript}
use Rattle.rtec_main.specs.Tasks.{world_of}
use Rattle.rtec_main.proofs.CountedPrograms.{counted_program_is}
use Rattle.rtec_main.proofs.Scripts.{few_entries, commands_are}
use Rattle.rtec_main.proofs.Refusals.{script_refused_before, script_before}
use Rattle.rtec_main.proofs.Running.{refused_script, report_given}
use Rattle.rtec_main.proofs.Concluding.{refused_report_concludes, refused_script_concludes}
use Rattle.rtec_main.proofs.Concluding.{report_concludes}
use Rattle.rtec_main.proofs.job.read_job.Given.{Over}
use Rattle.rtec_main.proofs.job.read_job.Goals.{In_err-script, In_ok-script}
use Rattle.rtec_main.proofs.job.read_job.Goals as goal

pub returns-in_err-described-clause-complete : goal.returns-in_err-described-clause-complete
returns-in_err-described-clause-complete g c =
    λ workers. refused_report_concludes (g.I.Inputs.bytes c.args.inputs.now)
    (g.I.Inputs.faults c.args.inputs.now) (g.I.Inputs.faults c.read_description.new.inputs)
    c.args.description.now c.args.script.now workers c.in_err-described.field-0.0
    c.in_err-described.ensures.err c.from_residual.result (search (rules, c.from_residual.ensures))

-- why there is no script, as inputs stood at first
no_script : (g : Over) (c : In_err-script g) → IsWhyNoScript
    (g.I.Inputs.bytes c.args.inputs.now c.args.script.now)
    (g.I.Inputs.faults c.args.inputs.now c.args.script.now)
    (g.I.Inputs.faults c.read_script.new.inputs c.args.script.now)
    c.in_ok-described.described.program c.in_err-script.field-0.0
no_script g c =
    script_refused_before (g.I.Inputs.bytes c.args.inputs.now c.args.script.now)
    (g.I.Inputs.bytes c.read_description.new.inputs c.args.script.now)
    (g.I.Inputs.faults c.args.inputs.now c.args.script.now)
    (g.I.Inputs.faults c.read_description.new.inputs c.args.script.now)
    (g.I.Inputs.faults c.read_script.new.inputs c.args.script.now)
    c.into_program-program.result c.in_ok-described.described.program c.in_err-script.field-0.0
    c.into_program-program.ensures (c.in_ok-described.ensures.same c.args.script.now)
    (c.in_ok-described.ensures.later c.args.script.now) c.in_err-script.ensures.err

pub returns-in_err-script-clause-answer : goal.returns-in_err-script-clause-answer
returns-in_err-script-clause-answer g c =
    λ workers. refused_script (g.I.Inputs.bytes c.args.inputs.now)
    (g.I.Inputs.faults c.args.inputs.now) (g.I.Inputs.faults c.read_script.new.inputs)
    c.args.description.now c.args.script.now workers c.in_ok-described.described
    c.in_ok-described.ensures.sound c.in_ok-described.ensures.ok c.in_err-script.field-0.0
    (no_script g (goal.at.returns-in_err-script-clause-answer g c).In_err-script)
    c.from_residual-in_err-script.result (search (rules, c.from_residual-in_err-script.ensures))

pub returns-in_err-script-clause-complete : goal.returns-in_err-script-clause-complete
returns-in_err-script-clause-complete g c =
    λ workers. refused_script_concludes (g.I.Inputs.bytes c.args.inputs.now)
    (g.I.Inputs.faults c.args.inputs.now) (g.I.Inputs.faults c.read_script.new.inputs)
    c.args.description.now c.args.script.now workers c.in_ok-described.described
    c.in_ok-described.ensures.sound c.in_ok-described.ensures.ok c.in_err-script.field-0.0
    (no_script g (goal.at.returns-in_err-script-clause-complete g c).In_err-script)
    c.from_residual-in_err-script.result (search (rules, c.from_residual-in_err-script.ensures))

-- the script that is given, as inputs told it at first
given_script : (g : Over) (c : In_ok-script g)
    → IfSome (g.I.Inputs.bytes c.args.inputs.now c.args.script.now)
    (λ text. IsScriptOf c.in_ok-described.described.program text c.in_ok-script.script)
given_script g c =
    script_before (g.I.Inputs.bytes c.args.inputs.now c.args.script.now)
    (g.I.Inputs.bytes c.read_description.new.inputs c.args.script.now)
    c.into_program-program.result c.in_ok-described.described.program c.in_ok-script.script
    c.into_program-program.ensures (c.in_ok-described.ensures.same c.args.script.now)
    c.in_ok-script.ensures.ok

pub returns-clause-counted : goal.returns-clause-counted
returns-clause-counted g c =
    subst IsCounted (sym c.into_program-program.ensures)
    (counted_program_is c.in_ok-described.described c.in_ok-described.ensures.sound)

pub returns-clause-of_program : goal.returns-clause-of_program
returns-clause-of_program g c =
    commands_are c.into_program-program.result c.in_ok-script.script.commands
    c.in_ok-script.ensures.of_program

-- and it runs
runs : (g : Over) (c : In_ok-script g)
    → DoRun c.in_ok-described.described.program.plan (commands_of c.in_ok-script.script.commands)
runs g c =
    subst (λ (p : Program). DoRun p.plan (commands_of c.in_ok-script.script.commands))
    c.into_program-program.ensures c.in_ok-script.ensures.do_run

pub returns-clause-few : goal.returns-clause-few
returns-clause-few g c =
    let found = c.in_ok-described.described in
    let sound = c.in_ok-described.ensures.sound in
    few_entries found.program.plan (commands_of c.in_ok-script.script.commands) sound.program.plan
    (subst (λ (p : Plan). 1 ≤ p.queries)
    (sym (ap (λ (p : PlainProgram). p.plan) sound.is_program)) sound.checked.query_some)
    (runs g c)

pub returns-clause-answer : goal.returns-clause-answer
returns-clause-answer g c =
    λ workers taken writes.
    report_given (world_of (g.I.Inputs.bytes c.args.inputs.now)
    (g.I.Inputs.faults c.args.inputs.now) taken writes)
    c.args.description.now c.args.script.now c.in_ok-described.described
    c.in_ok-described.ensures.sound c.in_ok-described.ensures.ok c.in_ok-script.script
    (given_script g c) (runs g c) _
    (ap (λ (p : Program). report_text p (commands_of c.in_ok-script.script.commands)
    c.in_ok-script.script.ignored) c.into_program-program.ensures)

pub returns-clause-complete : goal.returns-clause-complete
returns-clause-complete g c =
    λ workers. report_concludes (g.I.Inputs.bytes c.args.inputs.now)
    (g.I.Inputs.faults c.args.inputs.now)
    (g.I.Inputs.faults c.read_script.new.inputs) c.args.description.now c.args.script.now workers
    c.in_ok-described.described c.in_ok-described.ensures.sound c.in_ok-described.ensures.ok
    c.in_ok-script.script (given_script g c) (runs g c) c.in_ok-script.script
