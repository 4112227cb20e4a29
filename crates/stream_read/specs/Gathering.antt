-- For private functions alone: a script, record by record.
use Rattle.std.specs.Prelude.{◌≡◌, ◌≤◌, Bool, true, false, ℕ, ◌+◌, nat_lt, List, [], ◌∷◌, ◌++◌}
use Rattle.std.specs.Prelude.{Option, Some, None, Result, Ok, Err, if◌then◌else◌}
use Rattle.ground_types.specs.declared.program.Program.{Program}
use Rattle.stream_read.specs.declared.records.Meaning.{Meaning}
use Rattle.stream_read.specs.declared.records.Meaning.TheVariants.{Means, Ignored, NoForm}
use Rattle.stream_read.specs.declared.script.Shape.{Shape}
use Rattle.stream_read.specs.declared.script.Placed.{Placed}
use Rattle.stream_read.specs.declared.script.Script.{Script}
use Rattle.stream_read.specs.declared.script.StreamRefused.{StreamRefused}
use Rattle.stream_read.specs.declared.script.StreamRefused.TheVariants as refused
use Rattle.stream_read.specs.Records.{meaning_of}
use Rattle.stream_read.specs.Scripts.{most}
use Rattle.stream_read.specs.Left.{TextReader, IsReading, left}

-- the commands of records, and how many of the records are ignored
pub record Gathered : Type 0 where
  pub commands : List Placed
  pub ignored : ℕ

-- what the record of a number adds, if it has a form
abbrev pub added : Meaning → ℕ → Gathered → Option Gathered
added (Means command) number before = Some
    (record {
      commands = before.commands ++ (record { place = number; command = command } ∷ []);
      ignored = before.ignored;
    })
added Ignored number before = Some (record {
  commands = before.commands;
  ignored =
      before.ignored + 1;
})
added NoForm number before = None

-- what comes of a record of a number and those behind it
abbrev pub answer_of : ℕ → Option Gathered → (Gathered → Result Script StreamRefused)
    → Result Script StreamRefused
answer_of number None behind = Err (refused.BadRecord number)
answer_of number (Some gathered) behind = behind gathered

-- what comes of records that follow so many others, of which this was gathered
abbrev pub script_from : Program → Shape → ℕ → Gathered → List (List (List ℕ))
    → Result Script StreamRefused
script_from program shape count before [] =
    Ok (record { commands = before.commands; ignored = before.ignored })
script_from program shape count before (row ∷ rows) =
    if nat_lt count most
    then answer_of (count + 1) (added (meaning_of program shape row) (count + 1) before)
    (λ next. script_from program shape (count + 1) next rows)
    else Err refused.TooMany

-- What a step of gathering comes to, of the records that were left behind so many others: there was
-- a record and it was gathered, there was none, or it refuses what all of them come to.
abbrev pub Gathers : Program → Shape → ℕ → Gathered → Gathered → List (List (List ℕ)) → TextReader
    → Result Bool StreamRefused → Type 0
Gathers program shape count before after rows reader (Ok true) = IsReading reader
    × (script_from program shape count before rows
    ≡ script_from program shape (count + 1) after (left reader)) × (after.ignored ≤ count + 1)
Gathers program shape count before after rows reader (Ok false) =
    script_from program shape count before rows
    ≡ Ok (record { commands = after.commands; ignored = after.ignored })
Gathers program shape count before after rows reader (Err refused.OutOfMemory) = Unit {0}
Gathers program shape count before after rows reader (Err refusal) =
    script_from program shape count before rows ≡ Err refusal

-- no record is left; or there is one, which is too many behind the most that there may be
abbrev pub Ends : List (List (List ℕ)) → Result (Unit {0}) StreamRefused → Type 0
Ends rows (Ok done) = rows ≡ []
Ends rows (Err refused.OutOfMemory) = Unit {0}
Ends rows (Err refusal) = (program : Program) (shape : Shape) (before : Gathered)
    → script_from program shape most before rows ≡ Err refusal
