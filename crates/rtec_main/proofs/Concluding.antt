-- Where inputs are told and none failed, the answer of a task is what their bytes come to.
use Rattle.std.proofs.Common.{◌≡◌, ◌⊎◌, inl, inr, ℕ, Bool, true, false, List, map, Option, Some}
use Rattle.std.proofs.Common.{None, Result, Ok, Err, refl, sym, ap, ◌∙◌, subst}
use Rattle.std.specs.Prelude.{if◌then◌else◌, IfSome}
use Rattle.rt_base.specs.declared.limit.Limit.{Limit}
use Rattle.rt_base.specs.declared.limit.Limit.TheVariants as limit
use Rattle.ground_rules.specs.Grounded.{PlainProgram}
use Rattle.run_status.specs.declared.status.DescFault.{DescFault}
use Rattle.rt_base.specs.Outside.{Rose}
use Rattle.rule_forms.specs.Forms.{plain}
use Rattle.decl_known.specs.Checked.{plain_checked}
use Rattle.stream_read.specs.declared.script.Script.{Script}
use Rattle.rtec_main.specs.declared.inputs.Description.{Description}
use Rattle.rtec_main.specs.declared.inputs.DescriptionRefused.{DescriptionRefused}
use Rattle.rtec_main.specs.declared.script.ScriptRefused.{ScriptRefused}
use Rattle.run_status.specs.declared.status.Status.{Status}
use Rattle.run_status.specs.declared.status.Status.TheVariants as status
use Rattle.ground_types.specs.declared.program.Program.{Program}
use Rattle.rtec_main.specs.Described.{Described, IsDescribed, TooLong, Faulty, Exceeds, Describes}
use Rattle.rtec_main.specs.Described.{IsProgramOf}
use Rattle.rtec_main.specs.Script.{commands_of, are_too_many, IsScriptOf, DoRun}
use Rattle.rtec_main.specs.Reads.{IsDescriptionOf, IsSoundDescription, IsWhyNoDescription}
use Rattle.rtec_main.specs.Reads.{description_status, IsWhyNoScript, script_status}
use Rattle.command_words.specs.Words.{Task, Recognise, Ground, Simulate, Live}
use Rattle.rtec_main.specs.Run.{World, ReadWell, script_outcome, IsRecogniseOutcome}
use Rattle.rtec_main.specs.Run.{ground_outcome, simulate_outcome, Concludes}
use Rattle.rtec_main.specs.Tasks.{world_of, ConcludesAny}
use Rattle.rtec_main.proofs.Refusals.{description_outcome, short_outcome, script_outcome_is}
use Rattle.rtec_main.proofs.Scripts.{run_outcome}

-- a refusal concludes as its status does
refused_by : {X : Type 0} (bytes : List ℕ → Option (List ℕ)) (before now : List ℕ → ℕ) (task : Task)
    (s : Status) (result : Result X Status) → result ≡ Err s
    → ConcludesAny {X = X} bytes before now task (Err s) → ConcludesAny bytes before now task result
refused_by {X} bytes before now task s result is so =
    subst (ConcludesAny {X = X} bytes before now task) (sym is) so

-- ---- a refused description

report_by_bytes : (description script : Option (List ℕ)) (before now : ℕ) (Fine : Type 0)
    (refused : DescriptionRefused) → IsWhyNoDescription description before now refused
    → IfSome description (λ d. IfSome script (λ s. (Rose before now → ⊥) → Fine
    → (description_status refused ≡ status.OutOfMemory) ⊎ ((is : Described) × IsDescribed d is
    × IsRecogniseOutcome is s (description_status refused))))
report_by_bytes None script before now Fine refused why = tt
report_by_bytes (Some d) None before now Fine refused why = tt
report_by_bytes (Some d) (Some s) before now Fine refused why =
    λ well fine. description_outcome (λ is t. IsRecogniseOutcome is s t) refl (λ fault. refl)
    (λ which. refl) d before now refused why well

pub refused_report_concludes : {X : Type 0} (bytes : List ℕ → Option (List ℕ))
    (before now : List ℕ → ℕ)
    (name script : List ℕ) (workers : ℕ) (refused : DescriptionRefused)
    → IsWhyNoDescription (bytes name) (before name) (now name) refused
    → (result : Result X Status) → result ≡ Err (description_status refused)
    → ConcludesAny bytes before now (Recognise name script workers) result
refused_report_concludes bytes before now name script workers refused why result is =
    refused_by bytes before now (Recognise name script workers) (description_status refused)
    result is
    (λ taken writes. report_by_bytes (bytes name) (bytes script) (before name) (now name)
    (Rose (before script) (now script) → ⊥) refused why)

-- what a description alone comes to that is refused
alone_by_bytes : (outcome : Described → Status)
    → outcome TooLong ≡ status.TooLarge limit.Description
    → ((why : DescFault) → outcome (Faulty why) ≡ status.BadDescription why)
    → ((which : Limit) → outcome (Exceeds which) ≡ status.TooLarge which)
    → (description : Option (List ℕ)) (before now : ℕ) (refused : DescriptionRefused)
    → IsWhyNoDescription description before now refused
    → IfSome description (λ d. (Rose before now → ⊥)
    → (description_status refused ≡ status.OutOfMemory) ⊎ ((is : Described) × IsDescribed d is
    × (description_status refused ≡ outcome is)))
alone_by_bytes outcome long faulty exceeds None before now refused why = tt
alone_by_bytes outcome long faulty exceeds (Some d) before now refused why =
    λ well. description_outcome (λ is t. t ≡ outcome is) (sym long) (λ fault. sym (faulty fault))
    (λ which. sym (exceeds which)) d before now refused why well

pub refused_grounding_concludes : {X : Type 0} (bytes : List ℕ → Option (List ℕ))
    (before now : List ℕ → ℕ)
    (name : List ℕ) (refused : DescriptionRefused)
    → IsWhyNoDescription (bytes name) (before name) (now name) refused
    → (result : Result X Status) → result ≡ Err (description_status refused)
    → ConcludesAny bytes before now (Ground name) result
refused_grounding_concludes bytes before now name refused why result is =
    refused_by bytes before now (Ground name) (description_status refused) result is
    (λ taken writes. alone_by_bytes ground_outcome refl (λ fault. refl) (λ which. refl)
    (bytes name) (before name) (now name) refused why)

pub refused_simulation_concludes : {X : Type 0} (bytes : List ℕ → Option (List ℕ))
    (before now : List ℕ → ℕ)
    (name : List ℕ) (seed size workers : ℕ) (is_full : Bool) (refused : DescriptionRefused)
    → IsWhyNoDescription (bytes name) (before name) (now name) refused
    → (result : Result X Status) → result ≡ Err (description_status refused)
    → ConcludesAny bytes before now (Simulate name seed size workers is_full) result
refused_simulation_concludes bytes before now name seed size workers is_full refused why result
    is =
    refused_by bytes before now (Simulate name seed size workers is_full)
    (description_status refused) result is
    (λ taken writes. alone_by_bytes (simulate_outcome size) refl (λ fault. refl) (λ which. refl)
    (bytes name) (before name) (now name) refused why)

-- ---- a description that was taken

-- the status of a description that was taken is this, where each script comes to it or memory ran
-- out
taken_by_bytes : (description script : Option (List ℕ)) (found : Description) (t : Status)
    (Fine Well : Type 0)
    → IfSome description (λ d. IsDescriptionOf d found)
    → IfSome script (λ s. Well → (t ≡ status.OutOfMemory)
    ⊎ ((program : Program) × IsProgramOf (plain_checked found.checked) found.layers.of_name
    program × (t ≡ script_outcome program s)))
    → IfSome description (λ d. IfSome script (λ s. Fine → Well
    → (t ≡ status.OutOfMemory) ⊎ ((is : Described) × IsDescribed d is × IsRecogniseOutcome is s t)))
taken_by_bytes None script found t Fine Well is outcome = tt
taken_by_bytes (Some d) None found t Fine Well is outcome = tt
taken_by_bytes (Some d) (Some s) found t Fine Well is outcome =
    λ fine well. elim (outcome well) [
      | inl e ↦ inl e
      | inr so ↦ inr (
        Describes (map plain found.syntax.statements) (plain_checked found.checked)
            found.layers.of_name,
        is.described,
        so,
      )
    ]

refused_by_bytes : (script : Option (List ℕ)) (before now : ℕ) (found : Description)
    → IsSoundDescription found → (refused : ScriptRefused) → IsWhyNoScript script before now
    found.program refused
    → IfSome script (λ s. (Rose before now → ⊥)
    → (script_status refused ≡ status.OutOfMemory)
    ⊎ ((program : Program) × IsProgramOf (plain_checked found.checked) found.layers.of_name
    program × (script_status refused ≡ script_outcome program s)))
refused_by_bytes None before now found sound refused why = tt
refused_by_bytes (Some s) before now found sound refused why =
    λ well. elim (script_outcome_is found.program s before now refused why well) [
      | inl e ↦ inl e
      | inr e ↦ inr (found.program, sound.is_program, e)
    ]

pub refused_script_concludes : {X : Type 0} (bytes : List ℕ → Option (List ℕ))
    (before now : List ℕ → ℕ)
    (name script : List ℕ) (workers : ℕ) (found : Description)
    → IsSoundDescription found → IfSome (bytes name) (λ text. IsDescriptionOf text found)
    → (refused : ScriptRefused)
    → IsWhyNoScript (bytes script) (before script) (now script) found.program refused
    → (result : Result X Status) → result ≡ Err (script_status refused)
    → ConcludesAny bytes before now (Recognise name script workers) result
refused_script_concludes bytes before now name script workers found sound described refused why
    result is =
    refused_by bytes before now (Recognise name script workers) (script_status refused) result is
    (λ taken writes. taken_by_bytes (bytes name) (bytes script) found (script_status refused)
    (Rose (before name) (now name) → ⊥) (Rose (before script) (now script) → ⊥) described
    (refused_by_bytes (bytes script) (before script) (now script) found sound refused why))

given_by_bytes : (script : Option (List ℕ)) (Well : Type 0) (found : Description)
    → IsSoundDescription found → (given : Script)
    → IfSome script (λ text. IsScriptOf found.program text given)
    → DoRun found.program.plan (commands_of given.commands)
    → IfSome script (λ s. Well → (status.Done ≡ status.OutOfMemory)
    ⊎ ((program : Program) × IsProgramOf (plain_checked found.checked) found.layers.of_name
    program × (status.Done ≡ script_outcome program s)))
given_by_bytes None Well found sound given is run = tt
given_by_bytes (Some s) Well found sound given is run =
    λ well. inr (
      found.program,
      sound.is_program,
      sym (short_outcome found.program s (Ok given) is.short is.is
          ∙ run_outcome found.program.plan (commands_of given.commands) run),
    )

pub report_concludes : {X : Type 0} (bytes : List ℕ → Option (List ℕ)) (before now : List ℕ → ℕ)
    (name script : List ℕ) (workers : ℕ) (found : Description)
    → IsSoundDescription found → IfSome (bytes name) (λ text. IsDescriptionOf text found)
    → (given : Script) → IfSome (bytes script) (λ text. IsScriptOf found.program text given)
    → DoRun found.program.plan (commands_of given.commands) → (text : X)
    → ConcludesAny bytes before now (Recognise name script workers) (Ok text)
report_concludes bytes before now name script workers found sound is given scripted run text =
    λ taken writes. taken_by_bytes (bytes name) (bytes script) found status.Done
    (Rose (before name) (now name) → ⊥) (Rose (before script) (now script) → ⊥) is
    (given_by_bytes (bytes script) (Rose (before script) (now script) → ⊥) found sound given
    scripted run)

-- what a description alone comes to that was taken
alone_taken : (outcome : Described → Status) (description : Option (List ℕ)) (Well : Type 0)
    (found : Description) (t : Status)
    → IfSome description (λ d. IsDescriptionOf d found)
    → t ≡ outcome (Describes (map plain found.syntax.statements) (plain_checked found.checked)
    found.layers.of_name)
    → IfSome description (λ d. Well → (t ≡ status.OutOfMemory)
    ⊎ ((is : Described) × IsDescribed d is × (t ≡ outcome is)))
alone_taken outcome None Well found t is e = tt
alone_taken outcome (Some d) Well found t is e =
    λ well. inr (
      Describes (map plain found.syntax.statements) (plain_checked found.checked)
          found.layers.of_name,
      is.described,
      e,
    )

pub grounding_concludes : {X : Type 0} (bytes : List ℕ → Option (List ℕ)) (before now : List ℕ → ℕ)
    (name : List ℕ) (found : Description)
    → IfSome (bytes name) (λ text. IsDescriptionOf text found) → (text : X)
    → ConcludesAny bytes before now (Ground name) (Ok text)
grounding_concludes bytes before now name found is text =
    λ taken writes. alone_taken ground_outcome (bytes name) (Rose (before name) (now name) → ⊥)
    found status.Done is refl

-- the status of a size
abbrev size_status : Bool → Status
size_status many = if many then status.TooLarge limit.Occurrences else status.Done

size_so : (found : Description) (size : ℕ) (many : Bool) → IsSoundDescription found
    → are_too_many found.program.plan size ≡ many
    → size_status many ≡ simulate_outcome size (Describes (map plain found.syntax.statements)
    (plain_checked found.checked) found.layers.of_name)
size_so found size many sound is =
    ap size_status (sym is
    ∙ ap (λ (p : PlainProgram). are_too_many p.plan size) sound.is_program)

pub size_concludes : {X : Type 0} (bytes : List ℕ → Option (List ℕ)) (before now : List ℕ → ℕ)
    (name : List ℕ) (seed size workers : ℕ) (is_full : Bool) (found : Description)
    → IsSoundDescription found → IfSome (bytes name) (λ text. IsDescriptionOf text found)
    → are_too_many found.program.plan size ≡ true
    → (result : Result X Status) → result ≡ Err (status.TooLarge limit.Occurrences)
    → ConcludesAny bytes before now (Simulate name seed size workers is_full) result
size_concludes bytes before now name seed size workers is_full found sound is many result e =
    refused_by bytes before now (Simulate name seed size workers is_full)
    (status.TooLarge limit.Occurrences) result e
    (λ taken writes. alone_taken (simulate_outcome size) (bytes name)
    (Rose (before name) (now name) → ⊥) found (status.TooLarge limit.Occurrences) is
    (size_so found size true sound many))

pub simulation_concludes : {X : Type 0} (bytes : List ℕ → Option (List ℕ))
    (before now : List ℕ → ℕ) (name : List ℕ) (seed size workers : ℕ) (is_full : Bool)
    (found : Description) → IsSoundDescription found
    → IfSome (bytes name) (λ text. IsDescriptionOf text found)
    → are_too_many found.program.plan size ≡ false → (given : X)
    → ConcludesAny bytes before now (Simulate name seed size workers is_full) (Ok given)
simulation_concludes bytes before now name seed size workers is_full found sound is few given =
    λ taken writes. alone_taken (simulate_outcome size) (bytes name)
    (Rose (before name) (now name) → ⊥) found status.Done is (size_so found size false sound few)

-- ---- want of memory

no_memory : (description : Option (List ℕ)) (P : List ℕ → Status → Type 0) (Well : Type 0)
    → IfSome description (λ d. Well → (status.OutOfMemory ≡ status.OutOfMemory)
    ⊎ P d status.OutOfMemory)
no_memory None P Well = tt
no_memory (Some d) P Well = λ well. inl refl

no_memory_for_two : (description script : Option (List ℕ))
    (P : List ℕ → List ℕ → Status → Type 0) (Fine Well : Type 0)
    → IfSome description (λ d. IfSome script (λ s. Fine → Well
    → (status.OutOfMemory ≡ status.OutOfMemory) ⊎ P d s status.OutOfMemory))
no_memory_for_two None script P Fine Well = tt
no_memory_for_two (Some d) None P Fine Well = tt
no_memory_for_two (Some d) (Some s) P Fine Well = λ fine well. inl refl

pub memory_concludes : (old new : World) (task : Task) → Concludes old new task status.OutOfMemory
memory_concludes old new (Recognise description script workers) =
    no_memory_for_two (old.bytes description) (old.bytes script)
    (λ bytes others s. (described : Described) × IsDescribed bytes described
    × IsRecogniseOutcome described others s) (ReadWell old new description)
    (ReadWell old new script)
memory_concludes old new (Ground description) =
    no_memory (old.bytes description) (λ bytes s. (described : Described)
    × IsDescribed bytes described × (s ≡ ground_outcome described))
    (ReadWell old new description)
memory_concludes old new (Simulate description seed size workers is_full) =
    no_memory (old.bytes description) (λ bytes s. (described : Described)
    × IsDescribed bytes described × (s ≡ simulate_outcome size described))
    (ReadWell old new description)
memory_concludes old new (Live description clock feeders readers workers) = tt

pub no_memory_concludes : {X : Type 0} (bytes : List ℕ → Option (List ℕ))
    (before now : List ℕ → ℕ) (task : Task) (result : Result X Status)
    → result ≡ Err status.OutOfMemory → ConcludesAny bytes before now task result
no_memory_concludes bytes before now task result is =
    refused_by bytes before now task status.OutOfMemory result is
    (λ taken writes. memory_concludes (world_of bytes before taken writes)
    (world_of bytes now taken writes) task)
