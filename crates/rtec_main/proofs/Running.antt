-- What the answer of a task says of a run.
use Rattle.std.proofs.Common.{◌≡◌, inl, inr, ℕ, Bool, true, false, List, map, Option, Result, Err}
use Rattle.std.proofs.Common.{sym, ap, ◌∙◌, subst}
use Rattle.std.specs.Prelude.{IfSome}
use Rattle.rtec_main.specs.declared.job.Job.{Job}
use Rattle.std.proofs.lemmas.Option.{IfSome_then}
use Rattle.rule_forms.specs.Forms.{plain}
use Rattle.decl_known.specs.Checked.{plain_checked}
use Rattle.stream_read.specs.declared.script.Script.{Script}
use Rattle.rtec_main.specs.declared.inputs.Description.{Description}
use Rattle.rtec_main.specs.declared.script.ScriptRefused.{ScriptRefused}
use Rattle.run_status.specs.declared.status.Status.{Status}
use Rattle.run_status.specs.declared.status.Status.TheVariants as status
use Rattle.rt_base.specs.declared.limit.Limit.TheVariants as limit
use Rattle.ground_types.specs.declared.entries.Command.{Command}
use Rattle.ground_types.specs.declared.program.Program.{Program}
use Rattle.workload_draw.specs.Workload.{workload_of}
use Rattle.rtec_main.specs.declared.simulate.Workload.{Workload}
use Rattle.rtec_main.specs.Simulated.{asked_text}
use Rattle.rtec_main.specs.Described.{IsDescribed, Describes}
use Rattle.rtec_main.specs.Script.{commands_of, are_too_many, IsScriptOf, DoRun}
use Rattle.report_text.specs.Report.{report_text}
use Rattle.ground_text.specs.GroundText.{ground_text}
use Rattle.rtec_main.specs.Reads.{IsDescriptionOf, IsSoundDescription, IsWhyNoScript, script_status}
use Rattle.command_words.specs.Words.{Recognise, Simulate}
use Rattle.rtec_main.specs.Run.{World, Runs, IsReport, IsGrounding, IsSimulation}
use Rattle.rtec_main.specs.Tasks.{world_of, report_by, simulated_by, Gives, Answers}
use Rattle.rtec_main.proofs.Refusals.{script_says}

-- ---- the answers of `report_of` and `grounding_of`

-- a description that was taken, where its bytes are told
found_described : (bytes : Option (List ℕ)) (found : Description)
    → IfSome bytes (λ text. IsDescriptionOf text found)
    → IfSome bytes (λ text. IsDescribed text (Describes (map plain found.syntax.statements)
    (plain_checked found.checked) found.layers.of_name))
found_described bytes found is = IfSome_then bytes is (λ text of. of.described)

pub runs_by : (world : World) (name : List ℕ) (found : Description) → IsSoundDescription found
    → IfSome (world.bytes name) (λ text. IsDescriptionOf text found)
    → Runs world name found.program
runs_by world name found sound is = record {
  statements = map plain found.syntax.statements;
  checked = plain_checked found.checked;
  of_name = found.layers.of_name;
  is_described = found_described (world.bytes name) found is;
  is_program = sound.is_program;
}

-- a refused script
refused_script_gives : (old new : World) (name script : List ℕ) (workers : ℕ)
    (found : Description)
    → IsSoundDescription found → IfSome (old.bytes name) (λ text. IsDescriptionOf text found)
    → (refused : ScriptRefused)
    → IsWhyNoScript (old.bytes script) (old.faults script) (new.faults script) found.program refused
    → Gives report_by old new (Recognise name script workers) (Err (script_status refused))
refused_script_gives old new name script workers found sound is refused why =
    elim (script_says old new name script found.program (runs_by old name found sound is) refused
    why) [ inl e ↦ inl e | inr says ↦ inr (inr says) ]

pub refused_script : (bytes : List ℕ → Option (List ℕ)) (before now : List ℕ → ℕ)
    (name script : List ℕ) (workers : ℕ) (found : Description)
    → IsSoundDescription found → IfSome (bytes name) (λ text. IsDescriptionOf text found)
    → (refused : ScriptRefused)
    → IsWhyNoScript (bytes script) (before script) (now script) found.program refused
    → (result : Result Job Status) → result ≡ Err (script_status refused)
    → Answers report_by bytes before now (Recognise name script workers) result
refused_script bytes before now name script workers found sound described refused why result is =
    subst (Answers report_by bytes before now (Recognise name script workers)) (sym is)
    (λ taken writes. refused_script_gives (world_of bytes before taken writes)
    (world_of bytes now taken writes) name script workers found sound described refused why)

-- a report
pub report_given : (old : World) (name script : List ℕ) (found : Description)
    → IsSoundDescription found → IfSome (old.bytes name) (λ text. IsDescriptionOf text found)
    → (given : Script) → IfSome (old.bytes script) (λ text. IsScriptOf found.program text given)
    → DoRun found.program.plan (commands_of given.commands)
    → (text : List ℕ) → text ≡ report_text found.program (commands_of given.commands) given.ignored
    → IsReport old name script text
report_given old name script found sound is given scripted run text e = record {
  program = found.program;
  script = given;
  runs = runs_by old name found sound is;
  is_script = scripted;
  do_run = run;
  is = e;
}

-- a ground text
pub grounding_given : (old : World) (name : List ℕ) (found : Description)
    → IfSome (old.bytes name) (λ text. IsDescriptionOf text found)
    → (text : List ℕ) → text ≡ ground_text (map plain found.syntax.statements)
    (plain_checked found.checked) found.layers.of_name → IsGrounding old name text
grounding_given old name found is text e = record {
  statements = map plain found.syntax.statements;
  checked = plain_checked found.checked;
  of_name = found.layers.of_name;
  is_described = found_described (old.bytes name) found is;
  is = e;
}

-- ---- a workload

-- a size that is refused
pub refused_size : (bytes : List ℕ → Option (List ℕ)) (before now : List ℕ → ℕ) (name : List ℕ)
    (seed size workers : ℕ) (is_full : Bool) (found : Description) → IsSoundDescription found
    → IfSome (bytes name) (λ text. IsDescriptionOf text found)
    → are_too_many found.program.plan size ≡ true
    → (result : Result Workload Status) → result ≡ Err (status.TooLarge limit.Occurrences)
    → Answers (simulated_by is_full) bytes before now (Simulate name seed size workers is_full)
    result
refused_size bytes before now name seed size workers is_full found sound is many result e =
    subst (Answers (simulated_by is_full) bytes before now
    (Simulate name seed size workers is_full)) (sym e)
    (λ taken writes. inr (inr (
      found.program,
      runs_by (world_of bytes before taken writes) name found sound is,
      many,
    )))

-- a workload that is within the limit
pub simulation_given : (old : World) (name : List ℕ) (seed size : ℕ) (is_full : Bool)
    (found : Description) → IsSoundDescription found
    → IfSome (old.bytes name) (λ text. IsDescriptionOf text found)
    → are_too_many found.program.plan size ≡ false
    → (program : Program) (commands : List Command) → program ≡ found.program
    → commands ≡ workload_of program seed size
    → IsSimulation old name seed size is_full (asked_text is_full program commands 0)
simulation_given old name seed size is_full found sound is few program commands same drawn =
    record {
      program = found.program;
      runs = runs_by old name found sound is;
      few = few;
      is = ap (λ c. asked_text is_full program c 0) drawn
          ∙ ap (λ p. asked_text is_full p (workload_of p seed size) 0) same;
    }
