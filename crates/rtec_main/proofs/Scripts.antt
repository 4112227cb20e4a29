-- The commands of scripts: how many entries they make, and whether they run.
use Rattle.std.proofs.Common.{◌≡◌, ◌<◌, ◌≤◌, ℕ, ◌+◌, ◌-◌, ◌*◌, ◌/◌, ◌^◌, nat_lt, Bool, false}
use Rattle.std.proofs.Common.{if◌then◌else◌, List, [], ◌∷◌, ap, ◌∙◌, arith}
use Rattle.std.proofs.Math.Nat.{mul-le-mul_left, mul-le-mul_right}
use Rattle.std.proofs.lemmas.Bool.Decides.{nat_tests}
use Rattle.std.proofs.lemmas.Nat.{le-div}
use Rattle.rt_base.specs.declared.limit.Limit.TheVariants as limit
use Rattle.ground_types.specs.Windows.{IsSoundPlan}
use Rattle.ground_types.specs.declared.entries.Command.{Command}
use Rattle.ground_types.specs.declared.entries.Command.TheVariants as command
use Rattle.ground_types.specs.declared.plan.Plan.{Plan}
use Rattle.ground_types.specs.declared.program.Program.{Program}
use Rattle.stream_read.specs.Scripts.{AreOfProgram}
use Rattle.stream_read.specs.declared.script.Placed.{Placed}
use Rattle.workload_draw.specs.Counts.{seal_count, feed_count}
use Rattle.workload_draw.specs.Workload.{AreMade}
use Rattle.rtec_main.specs.Coursing.{AreCommandsOf}
use Rattle.rtec_main.specs.Reads.{DoNotRun, script_status}
use Rattle.rtec_main.specs.Run.{commands_outcome}
use Rattle.rtec_main.specs.Script.{commands_of, entry_count, are_too_many}
use Rattle.rtec_main.specs.Script.{windows_of_event, exceeds_occurrences, DoRun}
use Rattle.rtec_main.specs.declared.script.ScriptRefused.{ScriptRefused}
use Rattle.rtec_main.specs.declared.script.ScriptRefused.TheVariants as script
use Rattle.run_status.specs.declared.status.Status.{Status}
use Rattle.run_status.specs.declared.status.Status.TheVariants as status

-- ---- how many entries they make

-- an event lies in a window at least
some_window : (plan : Plan) → IsSoundPlan plan → 1 ≤ plan.queries → 1 ≤ windows_of_event plan
some_window plan sound some =
    let one : 1 ≤ (plan.window + plan.step - 1) / plan.step =
    le-div 1 (plan.window + plan.step - 1) plan.step (omega (arith, sound.step_some))
    (omega (arith, sound.step_some, sound.step_most)) in
    omega (arith, one, some)

not_more : (n m : ℕ) → nat_lt n m ≡ false → m ≤ n
not_more n m h = grind (arith, nat_tests)

pub few_entries : (plan : Plan) (commands : List Command) → IsSoundPlan plan → 1 ≤ plan.queries
    → DoRun plan commands → entry_count commands < 2 ^ 32
few_entries plan commands sound some run =
    let feeds : ℕ = feed_count commands in
    omega (
      arith,
      not_more 16777216 (feeds * windows_of_event plan) run.occurrences_few,
      mul-le-mul_left feeds (some_window plan sound some),
      not_more plan.queries (seal_count commands) run.seals_few,
      sound.queries_most,
    )

-- ---- what they come to

abbrev outcome_by : Bool → Bool → Status
outcome_by seals occurrences =
    if seals then status.TooLarge limit.Seals
    else if occurrences then status.TooLarge limit.Occurrences else status.Done

pub not_run_outcome : (plan : Plan) (commands : List Command) (refused : ScriptRefused)
    → DoNotRun plan commands refused → commands_outcome plan commands ≡ script_status refused
not_run_outcome plan commands script.Seals h =
    ap (λ s. outcome_by s (exceeds_occurrences plan commands)) h
not_run_outcome plan commands script.Occurrences h =
    ap (λ s. outcome_by s (exceeds_occurrences plan commands)) h.0 ∙ ap (outcome_by false) h.1
not_run_outcome plan commands script.Fault h = absurd h
not_run_outcome plan commands script.TooLong h = absurd h
not_run_outcome plan commands (script.BadRecord number) h = absurd h
not_run_outcome plan commands script.TooMany h = absurd h
not_run_outcome plan commands script.OutOfMemory h = absurd h

pub run_outcome : (plan : Plan) (commands : List Command) → DoRun plan commands
    → commands_outcome plan commands ≡ status.Done
run_outcome plan commands run =
    ap (λ s. outcome_by s (exceeds_occurrences plan commands)) run.seals_few
    ∙ ap (outcome_by false) run.occurrences_few

-- ---- whose they are

-- the commands of a script are of the program
pub commands_are : (program : Program) (placed : List Placed) → AreOfProgram program placed
    → AreCommandsOf program (commands_of placed)
commands_are program [] are = tt
commands_are program (first ∷ rest) are = (are.0, commands_are program rest are.1)

-- so are those of a workload
pub told_are : (program : Program) (commands : List Command) → AreMade program commands
    → AreCommandsOf program commands
told_are program [] are = tt
told_are program (command.Feed feeder act event at ∷ rest) are =
    (are.0, told_are program rest are.1)
told_are program (command.Seal ∷ rest) are = (tt, told_are program rest are.1)
told_are program (command.Ask query ∷ rest) are = absurd are.0
told_are program (command.Wait count ∷ rest) are = absurd are.0
told_are program (command.After feeder count ∷ rest) are = absurd are.0

-- and where there are at most so many adds and revokes and no more seals than queries, they run
pub workload_runs : (plan : Plan) (commands : List Command) (size : ℕ)
    → are_too_many plan size ≡ false → feed_count commands ≤ size
    → seal_count commands ≤ plan.queries → DoRun plan commands
workload_runs plan commands size few feeds seals = record {
  seals_few = grind (arith, nat_tests);
  occurrences_few =
      let product : feed_count commands * windows_of_event plan ≤ 16777216 =
      omega (
        arith,
        mul-le-mul_right (windows_of_event plan) feeds,
        not_more 16777216 (size * windows_of_event plan) few,
      )
      in grind (arith, nat_tests);
}
