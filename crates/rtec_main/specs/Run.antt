-- Public contracts speak by this: what a run ends with, one case for each status.
use Rattle.std.specs.Prelude.{◌≡◌, ◌⊎◌, ◌≤◌, ◌<◌, ℕ, zero, suc, nat_lt, Bool, true, false}
use Rattle.std.specs.Prelude.{if◌then◌else◌, List, length, take, IfSome, Option, Some, None, Result}
use Rattle.std.specs.Prelude.{Ok, Err}
use Rattle.rt_base.specs.Outside.{Rose, with_bytes}
use Rattle.rt_base.specs.declared.limit.Limit.TheVariants as limit
use Rattle.ground_types.specs.declared.program.Program.{Program}
use Rattle.rule_forms.specs.Forms.{PlainStatement}
use Rattle.decl_known.specs.Checked.{PlainChecked}
use Rattle.stream_read.specs.declared.script.Script.{Script}
use Rattle.stream_read.specs.declared.script.StreamRefused.{StreamRefused}
use Rattle.stream_read.specs.declared.script.StreamRefused.TheVariants as refused
use Rattle.rtec_main.specs.Described.{Described, IsDescribed, TooLong, Faulty, Exceeds, Describes}
use Rattle.rtec_main.specs.Described.{IsProgramOf}
use Rattle.ground_types.specs.declared.entries.Command.{Command}
use Rattle.ground_types.specs.declared.plan.Plan.{Plan}
use Rattle.rtec_main.specs.Script.{longest, merged, IsScriptOf, commands_of, HasCommands}
use Rattle.rtec_main.specs.Script.{exceeds_seals, are_too_many, exceeds_occurrences, DoRun}
use Rattle.rtec_main.specs.Simulated.{asked_text}
use Rattle.workload_draw.specs.Workload.{workload_of}
use Rattle.command_words.specs.Words.{Task, Recognise, Ground, Simulate, Live}
use Rattle.report_text.specs.Report.{report_text}
use Rattle.ground_text.specs.GroundText.{ground_text}
use Rattle.run_status.specs.declared.status.ScriptFault.TheVariants as fault
use Rattle.run_status.specs.declared.status.Status.{Status}
use Rattle.run_status.specs.declared.status.Status.TheVariants as status

-- what inputs tell and how often they failed, and what a sink took and how often it failed
pub record World : Type 0 where
  pub bytes : List ℕ → Option (List ℕ)
  pub faults : List ℕ → ℕ
  pub taken : Option (List ℕ)
  pub write_faults : ℕ

-- a fact about the bytes of a file, where they are told
abbrev pub Told : World → List ℕ → (List ℕ → Type 0) → Type 0
Told world name P = IfSome (world.bytes name) P

-- ---- what is written

-- a program of the description, as far as its bytes are told
pub record Runs (world : World) (description : List ℕ) (program : Program) : Type 0 where
  pub statements : List PlainStatement
  pub checked : PlainChecked
  pub of_name : List ℕ
  pub is_described : Told world description (λ text. IsDescribed text (Describes statements checked
      of_name))
  pub is_program : IsProgramOf checked of_name program

-- the commands and the count of ignored records of the script, as far as its bytes are told
abbrev pub IsScript : World → List ℕ → Program → Script → Type 0
IsScript world name program script = Told world name (λ text. IsScriptOf program text script)

-- the text is the report of the two files
pub record IsReport (world : World) (description script_name text : List ℕ) : Type 0 where
  pub program : Program
  pub script : Script
  pub runs : Runs world description program
  pub is_script : IsScript world script_name program script
  pub do_run : DoRun program.plan (commands_of script.commands)
  pub is : text ≡ report_text program (commands_of script.commands) script.ignored

-- the text is the ground text of the file
pub record IsGrounding (world : World) (description text : List ℕ) : Type 0 where
  pub statements : List PlainStatement
  pub checked : PlainChecked
  pub of_name : List ℕ
  pub is_described : Told world description (λ bytes. IsDescribed bytes
      (Describes statements checked of_name))
  pub is : text ≡ ground_text statements checked of_name

-- the text is that of the workload of this seed and size, which is not too large: its report, or
-- the end of it alone
pub record IsSimulation (world : World) (description : List ℕ) (seed size : ℕ) (is_full : Bool)
    (text : List ℕ) : Type 0 where
  pub program : Program
  pub runs : Runs world description program
  pub few : are_too_many program.plan size ≡ false
  pub is : text ≡ asked_text is_full program (workload_of program seed size) 0

-- the text is the one that the task asks for
abbrev pub IsText : World → Task → List ℕ → Type 0
IsText world (Recognise description script workers) text = IsReport world description script text
IsText world (Ground description) text = IsGrounding world description text
IsText world (Simulate description seed size workers is_full) text =
    IsSimulation world description seed size is_full text
IsText world (Live description clock feeders readers workers) text = ⊥

-- nothing was written, and no write failed
abbrev pub WritesNothing : World → World → Type 0
WritesNothing old new = (new.taken ≡ old.taken) × (new.write_faults ≡ old.write_faults)

-- the sink has its old bytes followed by the whole text
pub record WritesAll (old new : World) (task : Task) : Type 0 where
  pub text : List ℕ
  pub is_text : IsText old task text
  pub taken : new.taken ≡ with_bytes text old.taken

-- the sink has its old bytes followed by a beginning of the text
pub record WritesPart (old new : World) (task : Task) : Type 0 where
  pub text : List ℕ
  pub count : ℕ
  pub is_text : IsText old task text
  pub taken : new.taken ≡ with_bytes (take count text) old.taken

-- ---- why nothing is written

-- What a status says that refuses the description, which is input 0. Its bytes, statements,
-- declarations and cycles are tested before its limits, and these in their order.
abbrev pub RefusesDescription : World → World → List ℕ → Status → Type 0
RefusesDescription old new name (status.BadDescription why) =
    Told old name (λ text. IsDescribed text (Faulty why))
RefusesDescription old new name (status.TooLarge limit.Description) =
    Told old name (λ text. IsDescribed text TooLong)
RefusesDescription old new name (status.TooLarge limit.Units) =
    Told old name (λ text. IsDescribed text (Exceeds limit.Units))
RefusesDescription old new name (status.TooLarge limit.Events) =
    Told old name (λ text. IsDescribed text (Exceeds limit.Events))
RefusesDescription old new name (status.TooLarge limit.Assignments) =
    Told old name (λ text. IsDescribed text (Exceeds limit.Assignments))
RefusesDescription old new name (status.TooLarge limit.Rules) =
    Told old name (λ text. IsDescribed text (Exceeds limit.Rules))
RefusesDescription old new name (status.TooLarge limit.Conditions) =
    Told old name (λ text. IsDescribed text (Exceeds limit.Conditions))
RefusesDescription old new name (status.TooLarge limit.Cells) =
    Told old name (λ text. IsDescribed text (Exceeds limit.Cells))
RefusesDescription old new name (status.ReadFault zero) = Rose (old.faults name) (new.faults name)
RefusesDescription old new name other = ⊥

-- of a program of the description and of the bytes of the script this is so
pub record Meets (world : World) (description script : List ℕ) (P : Program → List ℕ → Type 0) :
    Type 0 where
  pub program : Program
  pub runs : Runs world description program
  pub is_script : Told world script (P program)

-- What a status says that refuses the script, which is input 1. Its length and its records are
-- tested before its seals and its occurrences.
abbrev pub RefusesScript : World → World → List ℕ → List ℕ → Status → Type 0
RefusesScript old new description script (status.ReadFault (suc zero)) =
    Rose (old.faults script) (new.faults script)
    × ((program : Program) × Runs old description program)
RefusesScript old new description script (status.TooLarge limit.Script) =
    Meets old description script (λ program text. longest < length text)
RefusesScript old new description script (status.BadScript (suc zero) place fault.BadRecord) =
    Meets old description script (λ program text. (length text ≤ longest)
    × (merged program text ≡ Err (refused.BadRecord place)))
RefusesScript old new description script (status.TooLarge limit.Commands) =
    Meets old description script (λ program text. (length text ≤ longest)
    × (merged program text ≡ Err refused.TooMany))
RefusesScript old new description script (status.TooLarge limit.Seals) =
    Meets old description script (λ program text. HasCommands program text
    (λ commands. exceeds_seals program.plan commands ≡ true))
RefusesScript old new description script (status.TooLarge limit.Occurrences) =
    Meets old description script (λ program text. HasCommands program text
    (λ commands. (exceeds_seals program.plan commands ≡ false)
    × (exceeds_occurrences program.plan commands ≡ true)))
RefusesScript old new description script other = ⊥

-- what a status says that refuses the size of a workload
abbrev pub RefusesSize : World → List ℕ → ℕ → Status → Type 0
RefusesSize old description size (status.TooLarge limit.Occurrences) =
    (program : Program) × Runs old description program × (are_too_many program.plan size ≡ true)
RefusesSize old description size other = ⊥

-- what a status says that refuses what the task reads. Each case repeats that the tests before it
-- passed.
abbrev pub Refuses : World → World → Task → Status → Type 0
Refuses old new (Recognise description script workers) s = RefusesDescription old new description s
    ⊎ RefusesScript old new description script s
Refuses old new (Ground description) s = RefusesDescription old new description s
Refuses old new (Simulate description seed size workers is_full) s =
    RefusesDescription old new description s ⊎ RefusesSize old description size s
Refuses old new (Live description clock feeders readers workers) s = ⊥

-- no write failed, and nothing is written, or a beginning of the text
abbrev pub LeavesPart : World → World → Task → Type 0
LeavesPart old new task = WritesNothing old new
    ⊎ (WritesPart old new task × (new.write_faults ≡ old.write_faults))

-- what want of memory leaves
abbrev pub Leaves : World → World → Task → Type 0
Leaves old new (Recognise description script workers) =
    LeavesPart old new (Recognise description script workers)
Leaves old new (Ground description) = WritesNothing old new
Leaves old new (Simulate description seed size workers is_full) =
    LeavesPart old new (Simulate description seed size workers is_full)
Leaves old new (Live description clock feeders readers workers) = WritesNothing old new

-- What a status says, where the words ask for something. Want of memory alone has no cause.
abbrev pub Means : World → World → Task → Status → Type 0
Means old new task status.Done = WritesAll old new task
Means old new task status.WriteFault = Rose old.write_faults new.write_faults
    × WritesPart old new task
Means old new task status.OutOfMemory = Leaves old new task
Means old new task s = Refuses old new task s × WritesNothing old new

-- the words ask for nothing, or memory ran out, and nothing else happened
abbrev pub AsksNothing : World → World → Status → Type 0
AsksNothing old new s = ((s ≡ status.BadWords) ⊎ (s ≡ status.OutOfMemory)) × (new ≡ old)

-- what a status says: where the words ask for nothing, that they do not (those of `live` ask for
-- nothing here)
abbrev pub MeansOfWords : World → World → Option Task → Status → Type 0
MeansOfWords old new None s = AsksNothing old new s
MeansOfWords old new (Some (Live description clock feeders readers workers)) s =
    AsksNothing old new s
MeansOfWords old new (Some task) s = Means old new task s

-- ---- the other way round: which status told bytes come to

-- a file was read without a fault
abbrev pub ReadWell : World → World → List ℕ → Type 0
ReadWell old new name = Rose (old.faults name) (new.faults name) → ⊥

-- the status that the commands of a script come to
abbrev pub commands_outcome : Plan → List Command → Status
commands_outcome plan commands =
    if exceeds_seals plan commands then status.TooLarge limit.Seals
    else if exceeds_occurrences plan commands then status.TooLarge limit.Occurrences
    else status.Done

-- (no script comes to want of memory)
abbrev pub of_merged : Plan → Result Script StreamRefused → Status
of_merged plan (Ok given) = commands_outcome plan (commands_of given.commands)
of_merged plan (Err (refused.BadRecord place)) = status.BadScript 1 place fault.BadRecord
of_merged plan (Err refused.TooMany) = status.TooLarge limit.Commands
of_merged plan (Err refused.OutOfMemory) = status.OutOfMemory

-- the status that the bytes of a script come to
abbrev pub script_outcome : Program → List ℕ → Status
script_outcome program text = if nat_lt longest (length text) then status.TooLarge limit.Script
    else of_merged program.plan (merged program text)

-- the status that a description and the bytes of a script come to
abbrev pub IsRecogniseOutcome : Described → List ℕ → Status → Type 0
IsRecogniseOutcome TooLong script s = s ≡ status.TooLarge limit.Description
IsRecogniseOutcome (Faulty why) script s = s ≡ status.BadDescription why
IsRecogniseOutcome (Exceeds which) script s = s ≡ status.TooLarge which
IsRecogniseOutcome (Describes statements checked of_name) script s =
    (program : Program) × IsProgramOf checked of_name program × (s ≡ script_outcome program script)

-- the status that a description alone comes to
abbrev pub ground_outcome : Described → Status
ground_outcome TooLong = status.TooLarge limit.Description
ground_outcome (Faulty why) = status.BadDescription why
ground_outcome (Exceeds which) = status.TooLarge which
ground_outcome (Describes statements checked of_name) = status.Done

-- the status that a description and the size of a workload come to
abbrev pub simulate_outcome : ℕ → Described → Status
simulate_outcome size TooLong = status.TooLarge limit.Description
simulate_outcome size (Faulty why) = status.BadDescription why
simulate_outcome size (Exceeds which) = status.TooLarge which
simulate_outcome size (Describes statements checked of_name) =
    if are_too_many checked.plan size then status.TooLarge limit.Occurrences else status.Done

-- the status is what the bytes of a description come to, or memory ran out
abbrev pub ConcludesAlone : World → World → List ℕ → (Described → Status) → Status → Type 0
ConcludesAlone old new description outcome s =
    Told old description (λ bytes. ReadWell old new description →
    (s ≡ status.OutOfMemory) ⊎ ((described : Described) × IsDescribed bytes described
    × (s ≡ outcome described)))

-- where the files are told and read well, the status is what their bytes come to, or memory ran out
abbrev pub Concludes : World → World → Task → Status → Type 0
Concludes old new (Recognise description script workers) s =
    Told old description (λ bytes. Told old script (λ others. ReadWell old new description
    → ReadWell old new script →
    (s ≡ status.OutOfMemory) ⊎ ((described : Described) × IsDescribed bytes described
    × IsRecogniseOutcome described others s)))
Concludes old new (Ground description) s = ConcludesAlone old new description ground_outcome s
Concludes old new (Simulate description seed size workers is_full) s =
    ConcludesAlone old new description (simulate_outcome size) s
Concludes old new (Live description clock feeders readers workers) s = Unit {0}

-- Where no write failed either, so it is. (What a text is as a description is determined.)
abbrev pub Completes : World → World → Option Task → Status → Type 0
Completes old new None s = Unit {0}
Completes old new (Some task) s = (Rose old.write_faults new.write_faults → ⊥)
    → Concludes old new task s
