-- For private functions alone: what reading a whole input answers, and what is known of a
-- description and a script that were read.
use Rattle.std.specs.Prelude.{◌≡◌, ◌<◌, ◌≤◌, ℕ, Bool, true, false, List, ◌++◌, length, map, take}
use Rattle.std.specs.Prelude.{drop, IfSome, Option, None, Result, Ok, Err, Vec}
use Rattle.std.specs.declared.alloc.Global.{Global}
use Rattle.rt_base.specs.Outside.{Rose}
use Rattle.rt_base.specs.declared.limit.Limit.{Limit}
use Rattle.rt_base.specs.declared.limit.Limit.TheVariants as limit
use Rattle.ground_types.specs.Sound.{IsSound}
use Rattle.ground_types.specs.declared.entries.Command.{Command}
use Rattle.ground_types.specs.declared.plan.Plan.{Plan}
use Rattle.ground_types.specs.declared.program.Program.{Program}
use Rattle.rule_forms.specs.Forms.{plain}
use Rattle.rule_forms.specs.Sound.{IsSound as IsSoundSyntax}
use Rattle.rule_read.specs.declared.refused.ReadRefused.{ReadRefused}
use Rattle.rule_read.specs.declared.refused.ReadRefused.TheVariants as read
use Rattle.decl_known.specs.Checked.{plain_checked}
use Rattle.decl_known.specs.Sound.{IsSound as IsSoundChecked}
use Rattle.decl_known.specs.declared.checked.DeclRefused.{DeclRefused}
use Rattle.decl_known.specs.declared.checked.DeclRefused.TheVariants as declared
use Rattle.strata_check.specs.declared.layering.StrataRefused.{StrataRefused}
use Rattle.strata_check.specs.declared.layering.StrataRefused.TheVariants as strata
use Rattle.ground_rules.specs.Limits.{exceeded}
use Rattle.ground_rules.specs.declared.refused.GroundRefused.{GroundRefused}
use Rattle.ground_rules.specs.declared.refused.GroundRefused.TheVariants as grounding
use Rattle.stream_read.specs.declared.script.StreamRefused.{StreamRefused}
use Rattle.stream_read.specs.declared.script.StreamRefused.TheVariants as stream
use Rattle.rtec_main.specs.Described.{IsDescribed, TooLong as TooLongText, Faulty, Exceeds}
use Rattle.rtec_main.specs.Described.{Describes, IsProgramOf}
use Rattle.rtec_main.specs.Script.{longest, merged, HasCommands, exceeds_seals}
use Rattle.rtec_main.specs.Script.{exceeds_occurrences}
use Rattle.rtec_main.specs.declared.reads.Unread.{Unread}
use Rattle.rtec_main.specs.declared.reads.Unread.TheVariants.{Fault, TooLong, OutOfMemory}
use Rattle.rtec_main.specs.declared.inputs.Description.{Description}
use Rattle.rtec_main.specs.declared.inputs.DescriptionRefused.{DescriptionRefused}
use Rattle.rtec_main.specs.declared.inputs.DescriptionRefused.TheVariants as description
use Rattle.rtec_main.specs.declared.script.ScriptRefused.{ScriptRefused}
use Rattle.rtec_main.specs.declared.script.ScriptRefused.TheVariants as script
use Rattle.run_status.specs.declared.status.DescFault.TheVariants as fault
use Rattle.run_status.specs.declared.status.ScriptFault.TheVariants as script_fault
use Rattle.run_status.specs.declared.status.Status.{Status}
use Rattle.run_status.specs.declared.status.Status.TheVariants as status

-- all bytes, or why not: the count of faults rose, there are more bytes than the limit, or memory
-- ran out
abbrev pub Reads : Option (List ℕ) → ℕ → ℕ → ℕ → Result (Vec ℕ Global) Unread → Type 0
Reads bytes limit before now (Ok text) = IfSome bytes (λ all. text.items ≡ all)
Reads bytes limit before now (Err Fault) = Rose before now
Reads bytes limit before now (Err TooLong) = IfSome bytes (λ all. limit < length all)
Reads bytes limit before now (Err OutOfMemory) = Unit {0}

-- a piece of n bytes of all there is was added to a text, and none only at the end
pub record Continues (n room : ℕ) (old new all : List ℕ) : Type 0 where
  pub piece : new ≡ old ++ take n (drop (length old) all)
  pub some : length (take n (drop (length old) all)) ≡ n
  pub end : n ≡ 0 → 0 < room → length all ≤ length old

abbrev pub IsFaultOnlyIf : Type 0 → Unread → Type 0
IsFaultOnlyIf P Fault = P
IsFaultOnlyIf P TooLong = ⊥
IsFaultOnlyIf P OutOfMemory = Unit {0}

-- ---- a description

-- the bytes are a description with these statements, declarations, layers and this program
pub record IsDescriptionOf (text : List ℕ) (found : Description) : Type 0 where
  pub described : IsDescribed text (Describes (map plain found.syntax.statements)
      (plain_checked found.checked) found.layers.of_name)
  pub program : IsProgramOf (plain_checked found.checked) found.layers.of_name found.program

-- what is known of it, whether its bytes are told or not
pub record IsSoundDescription (found : Description) : Type 0 where
  pub syntax : IsSoundSyntax found.syntax
  pub checked : IsSoundChecked found.checked
  pub limits : exceeded (plain_checked found.checked) ≡ None
  pub program : IsSound found.program
  pub is_program : IsProgramOf (plain_checked found.checked) found.layers.of_name found.program

-- why bytes are not the description of a program
abbrev pub IsDescriptionRefused : List ℕ → DescriptionRefused → Type 0
IsDescriptionRefused text description.Fault = ⊥
IsDescriptionRefused text description.TooLong = IsDescribed text TooLongText
IsDescriptionRefused text (description.Faulty why) = IsDescribed text (Faulty why)
IsDescriptionRefused text (description.Exceeds which) = IsDescribed text (Exceeds which)
IsDescriptionRefused text description.OutOfMemory = Unit {0}

-- Why a description was not taken: the count of its faults rose, its bytes are refused where they
-- are told, or memory ran out.
abbrev pub IsWhyNoDescription : Option (List ℕ) → ℕ → ℕ → DescriptionRefused → Type 0
IsWhyNoDescription bytes before now description.Fault = Rose before now
IsWhyNoDescription bytes before now refused =
    IfSome bytes (λ text. IsDescriptionRefused text refused)

-- one of the limits on what a description comes to
abbrev pub is_described_limit : Limit → Bool
is_described_limit limit.Units = true
is_described_limit limit.Events = true
is_described_limit limit.Assignments = true
is_described_limit limit.Rules = true
is_described_limit limit.Conditions = true
is_described_limit limit.Cells = true
is_described_limit other = false

abbrev pub has_described_limit : DescriptionRefused → Bool
has_described_limit (description.Exceeds which) = is_described_limit which
has_described_limit other = true

-- the status of a refusal of the description
abbrev pub description_status : DescriptionRefused → Status
description_status description.Fault = status.ReadFault 0
description_status description.TooLong = status.TooLarge limit.Description
description_status (description.Faulty why) = status.BadDescription why
description_status (description.Exceeds which) = status.TooLarge which
description_status description.OutOfMemory = status.OutOfMemory

-- which refusal the answer of each call comes to that reads, checks, layers or grounds
abbrev pub unread_description : Unread → DescriptionRefused
unread_description Fault = description.Fault
unread_description TooLong = description.TooLong
unread_description OutOfMemory = description.OutOfMemory

abbrev pub unread_text : ReadRefused → DescriptionRefused
unread_text read.TooLong = description.TooLong
unread_text (read.BadByte line) = description.Faulty (fault.BadByte line)
unread_text (read.BadStatement line) = description.Faulty (fault.BadStatement line)
unread_text read.OutOfMemory = description.OutOfMemory

abbrev pub unaccepted : DeclRefused → DescriptionRefused
unaccepted declared.BadPlan = description.Faulty fault.BadPlan
unaccepted (declared.TooMany line) = description.Faulty (fault.TooMany line)
unaccepted (declared.Undeclared line) = description.Faulty (fault.Undeclared line)
unaccepted (declared.Twice line) = description.Faulty (fault.Twice line)
unaccepted (declared.NoTrigger line) = description.Faulty (fault.NoTrigger line)
unaccepted (declared.WrongKind line) = description.Faulty (fault.WrongKind line)
unaccepted (declared.Arity line) = description.Faulty (fault.Arity line)
unaccepted (declared.Clash line) = description.Faulty (fault.Clash line)
unaccepted (declared.Loose line) = description.Faulty (fault.Loose line)
unaccepted declared.OutOfMemory = description.OutOfMemory

abbrev pub unlayered : StrataRefused → DescriptionRefused
unlayered (strata.Cyclic name line) = description.Faulty (fault.Cyclic line)
unlayered strata.OutOfMemory = description.OutOfMemory

abbrev pub ungrounded : GroundRefused → DescriptionRefused
ungrounded (grounding.TooLarge which) = description.Exceeds which
ungrounded grounding.OutOfMemory = description.OutOfMemory

-- ---- a script

-- why commands do not run: the first test that they fail
abbrev pub DoNotRun : Plan → List Command → ScriptRefused → Type 0
DoNotRun plan commands script.Seals = exceeds_seals plan commands ≡ true
DoNotRun plan commands script.Occurrences = (exceeds_seals plan commands ≡ false)
    × (exceeds_occurrences plan commands ≡ true)
DoNotRun plan commands other = ⊥

-- why bytes are not a script that runs
abbrev pub IsScriptRefused : Program → List ℕ → ScriptRefused → Type 0
IsScriptRefused program text script.Fault = ⊥
IsScriptRefused program text script.TooLong = longest < length text
IsScriptRefused program text (script.BadRecord number) = (length text ≤ longest)
    × (merged program text ≡ Err (stream.BadRecord number))
IsScriptRefused program text script.TooMany = (length text ≤ longest)
    × (merged program text ≡ Err stream.TooMany)
IsScriptRefused program text script.Seals = HasCommands program text
    (λ commands. DoNotRun program.plan commands script.Seals)
IsScriptRefused program text script.Occurrences = HasCommands program text
    (λ commands. DoNotRun program.plan commands script.Occurrences)
IsScriptRefused program text script.OutOfMemory = Unit {0}

-- Why a script was not taken.
abbrev pub IsWhyNoScript : Option (List ℕ) → ℕ → ℕ → Program → ScriptRefused → Type 0
IsWhyNoScript bytes before now program script.Fault = Rose before now
IsWhyNoScript bytes before now program refused =
    IfSome bytes (λ text. IsScriptRefused program text refused)

-- the status of a refusal of the script
abbrev pub script_status : ScriptRefused → Status
script_status script.Fault = status.ReadFault 1
script_status script.TooLong = status.TooLarge limit.Script
script_status (script.BadRecord number) = status.BadScript 1 number script_fault.BadRecord
script_status script.TooMany = status.TooLarge limit.Commands
script_status script.Seals = status.TooLarge limit.Seals
script_status script.Occurrences = status.TooLarge limit.Occurrences
script_status script.OutOfMemory = status.OutOfMemory

-- which refusal the answer of each call comes to that reads a script
abbrev pub unread_script : Unread → ScriptRefused
unread_script Fault = script.Fault
unread_script TooLong = script.TooLong
unread_script OutOfMemory = script.OutOfMemory

abbrev pub unmerged : StreamRefused → ScriptRefused
unmerged (stream.BadRecord number) = script.BadRecord number
unmerged stream.TooMany = script.TooMany
unmerged stream.OutOfMemory = script.OutOfMemory
