-- What it says of a run that its description, or its script, is refused.
use Rattle.std.proofs.Common.{◌≡◌, ◌⊎◌, inl, inr, ℕ, ◌<◌, ◌≤◌, ltb, true, false, List, length}
use Rattle.std.proofs.Common.{Option, Some, Result, Ok, refl, sym, ap, ◌∙◌, subst, arith}
use Rattle.std.proofs.Common.{if◌then◌else◌}
use Rattle.std.specs.Prelude.{IfSome}
use Rattle.std.proofs.lemmas.Bool.Decides.{nat_tests}
use Rattle.rt_base.specs.Outside.{Rose}
use Rattle.rt_base.specs.declared.limit.Limit.{Limit}
use Rattle.rt_base.specs.declared.limit.Limit.TheVariants as limit
use Rattle.ground_types.specs.declared.program.Program.{Program}
use Rattle.stream_read.specs.declared.script.Script.{Script}
use Rattle.stream_read.specs.declared.script.StreamRefused.{StreamRefused}
use Rattle.rtec_main.specs.declared.inputs.DescriptionRefused.{DescriptionRefused}
use Rattle.rtec_main.specs.declared.inputs.DescriptionRefused.TheVariants as description
use Rattle.rtec_main.specs.declared.script.ScriptRefused.{ScriptRefused}
use Rattle.rtec_main.specs.declared.script.ScriptRefused.TheVariants as script
use Rattle.run_status.specs.declared.status.DescFault.{DescFault}
use Rattle.run_status.specs.declared.status.Status.{Status}
use Rattle.run_status.specs.declared.status.Status.TheVariants as status
use Rattle.rtec_main.specs.Described.{Described, IsDescribed, TooLong, Faulty, Exceeds}
use Rattle.rtec_main.specs.Script.{longest, merged, IsScriptOf, commands_of, HasCommands}
use Rattle.rtec_main.specs.Reads.{IsWhyNoDescription, description_status, IsWhyNoScript}
use Rattle.rtec_main.specs.Reads.{script_status, DoNotRun}
use Rattle.rtec_main.specs.Run.{World, Runs, RefusesScript as SaysScript}
use Rattle.rtec_main.specs.Run.{of_merged, script_outcome}
use Rattle.rtec_main.proofs.Scripts.{not_run_outcome}

-- ---- the status of a refusal says why

pub script_says : (old new : World) (described name : List ℕ) (program : Program)
    → Runs old described program → (refused : ScriptRefused)
    → IsWhyNoScript (old.bytes name) (old.faults name) (new.faults name) program refused
    → (script_status refused ≡ status.OutOfMemory) ⊎ SaysScript old new described name
    (script_status refused)
script_says old new described name program runs script.Fault why = inr (why, (program, runs))
script_says old new described name program runs script.TooLong why =
    inr (record { program = program; runs = runs; is_script = why })
script_says old new described name program runs (script.BadRecord number) why =
    inr (record { program = program; runs = runs; is_script = why })
script_says old new described name program runs script.TooMany why =
    inr (record { program = program; runs = runs; is_script = why })
script_says old new described name program runs script.Seals why =
    inr (record { program = program; runs = runs; is_script = why })
script_says old new described name program runs script.Occurrences why =
    inr (record { program = program; runs = runs; is_script = why })
script_says old new described name program runs script.OutOfMemory why = inl refl

rose_since : (before mid now : ℕ) → before ≤ mid → Rose mid now → Rose before now
rose_since before mid now later rose = omega arith

-- a script that is refused as inputs stand later is refused as they stood before
pub script_refused_before : (told bytes : Option (List ℕ)) (before mid now : ℕ)
    (taken program : Program) (refused : ScriptRefused) → taken ≡ program → bytes ≡ told
    → before ≤ mid → IsWhyNoScript bytes mid now taken refused
    → IsWhyNoScript told before now program refused
script_refused_before told bytes before mid now taken program script.Fault is same later why =
    rose_since before mid now later why
script_refused_before told bytes before mid now taken program refused is same later why =
    subst (λ p. IsWhyNoScript told before now p refused) is
    (subst (λ b. IsWhyNoScript b mid now taken refused) same why)

-- so it is of a script that runs
pub script_before : (told bytes : Option (List ℕ)) (taken program : Program) (given : Script)
    → taken ≡ program → bytes ≡ told → IfSome bytes (λ text. IsScriptOf taken text given)
    → IfSome told (λ text. IsScriptOf program text given)
script_before told bytes taken program given is same scripted =
    subst (λ p. IfSome told (λ text. IsScriptOf p text given)) is
    (subst (λ b. IfSome b (λ text. IsScriptOf taken text given)) same scripted)

-- ---- and it is what the bytes come to

-- what a description comes to, where it is refused
pub description_outcome : (P : Described → Status → Type 0)
    → P TooLong (status.TooLarge limit.Description)
    → ((why : DescFault) → P (Faulty why) (status.BadDescription why))
    → ((which : Limit) → P (Exceeds which) (status.TooLarge which))
    → (text : List ℕ) (before now : ℕ) (refused : DescriptionRefused)
    → IsWhyNoDescription (Some text) before now refused → (Rose before now → ⊥)
    → (description_status refused ≡ status.OutOfMemory) ⊎ ((d : Described) × IsDescribed text d
    × P d (description_status refused))
description_outcome P long faulty exceeds text before now description.Fault why well =
    absurd (well why)
description_outcome P long faulty exceeds text before now description.TooLong why well =
    inr (TooLong, why, long)
description_outcome P long faulty exceeds text before now (description.Faulty fault) why well =
    inr (Faulty fault, why, faulty fault)
description_outcome P long faulty exceeds text before now (description.Exceeds which) why well =
    inr (Exceeds which, why, exceeds which)
description_outcome P long faulty exceeds text before now description.OutOfMemory why well =
    inl refl

is_longer : (n : ℕ) → longest < n → ltb longest n ≡ true
is_longer n more = grind (arith, nat_tests)

is_shorter : (n : ℕ) → n ≤ longest → ltb longest n ≡ false
is_shorter n few = grind (arith, nat_tests)

-- what a script comes to that is not too long
pub short_outcome : (program : Program) (text : List ℕ) (given : Result Script StreamRefused)
    → length text ≤ longest → merged program text ≡ given
    → script_outcome program text ≡ of_merged program.plan given
short_outcome program text given short is =
    ap (λ b. if b then status.TooLarge limit.Script
    else of_merged program.plan (merged program text))
    (is_shorter (length text) short) ∙ ap (of_merged program.plan) is

-- what a script comes to whose commands do not run
commands_outcome_is : (program : Program) (text : List ℕ) (refused : ScriptRefused)
    → HasCommands program text (λ commands. DoNotRun program.plan commands refused)
    → script_outcome program text ≡ script_status refused
commands_outcome_is program text refused (given, is, why) =
    short_outcome program text (Ok given) is.short is.is
    ∙ not_run_outcome program.plan (commands_of given.commands) refused why

-- what a script comes to, where it is refused
pub script_outcome_is : (program : Program) (text : List ℕ) (before now : ℕ)
    (refused : ScriptRefused) → IsWhyNoScript (Some text) before now program refused
    → (Rose before now → ⊥)
    → (script_status refused ≡ status.OutOfMemory)
    ⊎ (script_status refused ≡ script_outcome program text)
script_outcome_is program text before now script.Fault why well = absurd (well why)
script_outcome_is program text before now script.TooLong why well =
    inr (sym (ap (λ b. if b then status.TooLarge limit.Script
    else of_merged program.plan (merged program text))
    (is_longer (length text) why)))
script_outcome_is program text before now (script.BadRecord number) why well =
    inr (sym (short_outcome program text _ why.0 why.1))
script_outcome_is program text before now script.TooMany why well =
    inr (sym (short_outcome program text _ why.0 why.1))
script_outcome_is program text before now script.Seals why well =
    inr (sym (commands_outcome_is program text script.Seals why))
script_outcome_is program text before now script.Occurrences why well =
    inr (sym (commands_outcome_is program text script.Occurrences why))
script_outcome_is program text before now script.OutOfMemory why well = inl refl
