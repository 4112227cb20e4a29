-- For private functions alone: what the code lends of a task, and what the text of a task comes
-- to before anything is written.
use Rattle.std.specs.Prelude.{◌≡◌, ◌⊎◌, ◌≤◌, ℕ, Bool, List, Option, Some, Result, Ok, Err}
use Rattle.report_text.specs.Report.{report_text}
use Rattle.rtec_main.specs.Script.{commands_of}
use Rattle.rtec_main.specs.declared.job.Job.{Job}
use Rattle.rtec_main.specs.declared.simulate.Workload.{Workload}
use Rattle.command_words.specs.Words.{Task, Simulate}
use Rattle.run_status.specs.declared.status.Status.{Status}
use Rattle.run_status.specs.declared.status.Status.TheVariants as status
use Rattle.rtec_main.specs.Run.{World, IsText, Refuses, Concludes}
use Rattle.rtec_main.specs.Simulated.{asked_text}

-- a workload that is asked for has a size
abbrev pub IsSized : Option Task → Type 0
IsSized (Some (Simulate description seed size workers is_full)) = 1 ≤ size
IsSized other = Unit {0}

-- inputs beside a sink that took this
abbrev pub world_of : (List ℕ → Option (List ℕ)) → (List ℕ → ℕ) → Option (List ℕ) → ℕ → World
world_of bytes faults taken write_faults = record {
  bytes = bytes;
  faults = faults;
  taken = taken;
  write_faults = write_faults;
}

-- the report that a job asks for
abbrev pub report_by : Job → List ℕ
report_by job = report_text job.program (commands_of job.script.commands) job.script.ignored

-- what is asked for of a workload
abbrev pub simulated_by : Bool → Workload → List ℕ
simulated_by is_full workload = asked_text is_full workload.program workload.commands.items 0

-- what the text of the task is made of, or why there is none
abbrev pub Gives : {X : Type 0} → (X → List ℕ) → World → World → Task → Result X Status → Type 0
Gives text old new task (Ok x) = IsText old task (text x)
Gives text old new task (Err s) = (s ≡ status.OutOfMemory) ⊎ Refuses old new task s

-- the same, whatever the sink took
abbrev pub Answers : {X : Type 0} → (X → List ℕ) → (List ℕ → Option (List ℕ)) → (List ℕ → ℕ)
    → (List ℕ → ℕ) → Task → Result X Status → Type 0
Answers text bytes before now task result =
    (taken : Option (List ℕ)) (write_faults : ℕ) → Gives text
    (world_of bytes before taken write_faults) (world_of bytes now taken write_faults) task result

-- the status of a run that comes to a text, and writes it
abbrev pub status_of : {X : Type 0} → Result X Status → Status
status_of (Ok x) = status.Done
status_of (Err s) = s

-- the same of what the bytes come to
abbrev pub ConcludesAny : {X : Type 0} → (List ℕ → Option (List ℕ)) → (List ℕ → ℕ) → (List ℕ → ℕ)
    → Task → Result X Status → Type 0
ConcludesAny bytes before now task result =
    (taken : Option (List ℕ)) (write_faults : ℕ)
    → Concludes (world_of bytes before taken write_faults)
    (world_of bytes now taken write_faults) task (status_of result)
