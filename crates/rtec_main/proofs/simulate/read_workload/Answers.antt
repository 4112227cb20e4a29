use Rattle.std.proofs.Common.{◌≡◌, ◌≤◌, ◌∙◌, true, false, Err, refl, ap, sym, subst, rules}
use Rattle.rt_base.specs.declared.limit.Limit.TheVariants as limit
use Rattle.run_status.specs.declared.status.Status.TheVariants as status
use Rattle.rtec_main.specs.declared.simulate.Workload.{Workload}
use Rattle.ground_types.specs.declared.plan.Plan.{Plan}
use Rattle.ground_types.specs.declared.program.Program.{Program}
use Rattle.ground_types.specs.Sound.{IsSound}
use Rattle.ground_rules.specs.Grounded.{PlainProgram}
use Rattle.report_text.specs.Printed.{IsCounted}
use Rattle.command_words.specs.Words.{Simulate}
use Rattle.rtec_main.specs.Reads.{IsSoundDescription}
use Rattle.rtec_main.specs.Script.{are_too_many, DoRun}
use Rattle.rtec_main.specs.Tasks.{world_of}
use Rattle.rtec_main.specs.declared.inputs.Description.{Description}
use Rattle.rtec_main.proofs.CountedPrograms.{counted_program_is}
use Rattle.rtec_main.proofs.Scripts.{few_entries, told_are, workload_runs}
use Rattle.rtec_main.proofs.Running.{refused_size, simulation_given}
use Rattle.rtec_main.proofs.Concluding.{refused_simulation_concludes, size_concludes}
use Rattle.rtec_main.proofs.Concluding.{simulation_concludes, no_memory_concludes}
use Rattle.rtec_main.proofs.simulate.read_workload.Given.{Over}
use Rattle.rtec_main.proofs.simulate.read_workload.Goals.{In_ok-commands}
use Rattle.rtec_main.proofs.simulate.read_workload.Goals as goal

pub returns-in_err-described-clause-complete : goal.returns-in_err-described-clause-complete
returns-in_err-described-clause-complete g c =
    λ workers is_full. refused_simulation_concludes (g.I.Inputs.bytes c.args.inputs.now)
    (g.I.Inputs.faults c.args.inputs.now) (g.I.Inputs.faults c.read_description.new.inputs)
    c.args.description.now c.args.seed c.args.size workers is_full
    c.in_err-described.field-0.0 c.in_err-described.ensures.err c.from_residual.result
    (search (rules, c.from_residual.ensures))

pub returns-then-are_too_many-clause-answer : goal.returns-then-are_too_many-clause-answer
returns-then-are_too_many-clause-answer g c =
    λ workers is_full. refused_size (g.I.Inputs.bytes c.args.inputs.now)
    (g.I.Inputs.faults c.args.inputs.now) (g.I.Inputs.faults c.read_description.new.inputs)
    c.args.description.now c.args.seed c.args.size workers is_full c.in_ok-described.described
    c.in_ok-described.ensures.sound c.in_ok-described.ensures.ok
    (subst (λ (p : Program). are_too_many p.plan c.args.size ≡ true)
    c.into_program-program.ensures
    (ap (are_too_many c.into_program-program.result.plan) (sym c.from.ensures)
    ∙ sym c.are_too_many.ensures ∙ c.if-are_too_many.true)) _ refl

pub returns-then-are_too_many-clause-complete : goal.returns-then-are_too_many-clause-complete
returns-then-are_too_many-clause-complete g c =
    λ workers is_full. size_concludes {X = Workload} (g.I.Inputs.bytes c.args.inputs.now)
    (g.I.Inputs.faults c.args.inputs.now) (g.I.Inputs.faults c.read_description.new.inputs)
    c.args.description.now c.args.seed c.args.size workers is_full c.in_ok-described.described
    c.in_ok-described.ensures.sound c.in_ok-described.ensures.ok
    (subst (λ (p : Program). are_too_many p.plan c.args.size ≡ true)
    c.into_program-program.ensures
    (ap (are_too_many c.into_program-program.result.plan) (sym c.from.ensures)
    ∙ sym c.are_too_many.ensures ∙ c.if-are_too_many.true))
    (Err (status.TooLarge limit.Occurrences)) refl

-- it has a query
queries_some : (found : Description) (program : Program) → IsSoundDescription found
    → program ≡ found.program → 1 ≤ program.plan.queries
queries_some found program sound same =
    subst (λ (p : Plan). 1 ≤ p.queries)
    (sym (ap (λ (p : Program). p.plan) same
    ∙ ap (λ (p : PlainProgram). p.plan) sound.is_program))
    sound.checked.query_some

pub workload-requires-clause-sound : goal.workload-requires-clause-sound
workload-requires-clause-sound g c =
    subst IsSound (sym c.into_program-program.ensures)
    c.in_ok-described.ensures.sound.program

pub workload-requires-clause-queries : goal.workload-requires-clause-queries
workload-requires-clause-queries g c =
    queries_some c.in_ok-described.described c.into_program-program.result
    c.in_ok-described.ensures.sound c.into_program-program.ensures

pub returns-in_err-commands-clause-complete : goal.returns-in_err-commands-clause-complete
returns-in_err-commands-clause-complete g c =
    λ workers is_full. no_memory_concludes (g.I.Inputs.bytes c.args.inputs.now)
    (g.I.Inputs.faults c.args.inputs.now) (g.I.Inputs.faults c.read_description.new.inputs)
    (Simulate c.args.description.now c.args.seed c.args.size workers is_full)
    c.from_residual-in_err-commands.result
    (search (rules, c.from_residual-in_err-commands.ensures))

pub returns-clause-counted : goal.returns-clause-counted
returns-clause-counted g c =
    subst IsCounted (sym c.into_program-program.ensures)
    (counted_program_is c.in_ok-described.described c.in_ok-described.ensures.sound)

pub returns-clause-of_program : goal.returns-clause-of_program
returns-clause-of_program g c =
    told_are c.into_program-program.result c.in_ok-commands.commands.items
    c.in_ok-commands.ensures.made

-- and it runs
runs : (g : Over) (c : In_ok-commands g)
    → DoRun c.into_program-program.result.plan c.in_ok-commands.commands.items
runs g c =
    workload_runs c.into_program-program.result.plan c.in_ok-commands.commands.items c.args.size
    (ap (are_too_many c.into_program-program.result.plan) (sym c.from.ensures)
    ∙ sym c.are_too_many.ensures ∙ c.if-are_too_many.false)
    c.in_ok-commands.ensures.feeds c.in_ok-commands.ensures.seals

pub returns-clause-do_run : goal.returns-clause-do_run
returns-clause-do_run g c = runs g c

pub returns-clause-few : goal.returns-clause-few
returns-clause-few g c =
    let found = c.in_ok-described.described in
    few_entries c.into_program-program.result.plan c.in_ok-commands.commands.items
    (subst (λ (p : Program). IsSound p) (sym c.into_program-program.ensures)
    c.in_ok-described.ensures.sound.program).plan
    (queries_some found c.into_program-program.result c.in_ok-described.ensures.sound
    c.into_program-program.ensures)
    (runs g c)

pub returns-clause-answer : goal.returns-clause-answer
returns-clause-answer g c =
    λ workers is_full taken writes.
    simulation_given (world_of (g.I.Inputs.bytes c.args.inputs.now)
    (g.I.Inputs.faults c.args.inputs.now) taken writes)
    c.args.description.now c.args.seed c.args.size is_full c.in_ok-described.described
    c.in_ok-described.ensures.sound c.in_ok-described.ensures.ok
    (subst (λ (p : Program). are_too_many p.plan c.args.size ≡ false)
    c.into_program-program.ensures
    (ap (are_too_many c.into_program-program.result.plan) (sym c.from.ensures)
    ∙ sym c.are_too_many.ensures ∙ c.if-are_too_many.false))
    c.into_program-program.result c.in_ok-commands.commands.items
    c.into_program-program.ensures c.in_ok-commands.ensures.is

pub returns-clause-complete : goal.returns-clause-complete
returns-clause-complete g c =
    λ workers is_full.
    simulation_concludes (g.I.Inputs.bytes c.args.inputs.now)
    (g.I.Inputs.faults c.args.inputs.now) (g.I.Inputs.faults c.read_description.new.inputs)
    c.args.description.now c.args.seed c.args.size workers is_full c.in_ok-described.described
    c.in_ok-described.ensures.sound c.in_ok-described.ensures.ok
    (subst (λ (p : Program). are_too_many p.plan c.args.size ≡ false)
    c.into_program-program.ensures
    (ap (are_too_many c.into_program-program.result.plan) (sym c.from.ensures)
    ∙ sym c.are_too_many.ensures ∙ c.if-are_too_many.false)) c.in_ok-commands.commands
