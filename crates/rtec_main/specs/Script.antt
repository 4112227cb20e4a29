-- Public contracts speak by this: merged scripts, and those that `recognise` runs: they are within
-- the limits on seals and occurrences.
use Rattle.std.specs.Prelude.{◌≡◌, ◌≤◌, ℕ, ◌+◌, ◌-◌, ◌*◌, ◌/◌, min, nat_lt, Bool, false, List}
use Rattle.std.specs.Prelude.{length, map, Result, Ok}
use Rattle.ground_types.specs.declared.entries.Command.{Command}
use Rattle.ground_types.specs.declared.plan.Plan.{Plan}
use Rattle.ground_types.specs.declared.program.Program.{Program}
use Rattle.stream_read.specs.Scripts.{records_of, script_of}
use Rattle.stream_read.specs.declared.script.Placed.{Placed}
use Rattle.stream_read.specs.declared.script.Script.{Script}
use Rattle.stream_read.specs.declared.script.Shape.TheVariants as shape
use Rattle.stream_read.specs.declared.script.StreamRefused.{StreamRefused}
use Rattle.workload_draw.specs.Counts.{seal_count, feed_count}

-- the longest script, in bytes
abbrev pub longest : ℕ
longest = 67108864

-- what the bytes of a merged script come to
abbrev pub merged : Program → List ℕ → Result Script StreamRefused
merged program text = script_of program shape.Merged (records_of text)

-- the bytes are a merged script that is not too long
pub record IsScriptOf (program : Program) (text : List ℕ) (found : Script) : Type 0 where
  pub short : length text ≤ longest
  pub is : merged program text ≡ Ok found

abbrev pub commands_of : List Placed → List Command
commands_of placed = map (λ p. p.command) placed

-- how many entries they make: one for each add, revoke and seal
abbrev pub entry_count : List Command → ℕ
entry_count commands = feed_count commands + seal_count commands

-- there are more seals than queries
abbrev pub exceeds_seals : Plan → List Command → Bool
exceeds_seals plan commands = nat_lt plan.queries (seal_count commands)

-- in how many windows one event may lie: window / step rounded up, and no more than there are
-- queries
abbrev pub windows_of_event : Plan → ℕ
windows_of_event plan = min plan.queries ((plan.window + plan.step - 1) / plan.step)

-- the events of so many adds and revokes may lie in a window too often
abbrev pub are_too_many : Plan → ℕ → Bool
are_too_many plan feeds = nat_lt 16777216 (feeds * windows_of_event plan)

abbrev pub exceeds_occurrences : Plan → List Command → Bool
exceeds_occurrences plan commands = are_too_many plan (feed_count commands)

-- the commands run: seals and occurrences are within their limits
pub record DoRun (plan : Plan) (commands : List Command) : Type 0 where
  pub seals_few : exceeds_seals plan commands ≡ false
  pub occurrences_few : exceeds_occurrences plan commands ≡ false

-- the text is a merged script that is not too long, and of its commands this is so
abbrev pub HasCommands : Program → List ℕ → (List Command → Type 0) → Type 0
HasCommands program text P = (given : Script) × IsScriptOf program text given
    × P (commands_of given.commands)
