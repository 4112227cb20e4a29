-- Public contracts speak by this: the commands of a script.
use Rattle.std.specs.Prelude.{◌≡◌, ◌<◌, ◌≤◌, ℕ, ◌+◌, nat_lt, Bool, true, false, List, [], ◌∷◌}
use Rattle.std.specs.Prelude.{length, map, take, filter, position, slice_get, Option, Some, None}
use Rattle.std.specs.Prelude.{Result, Ok, Err}
use Rattle.csv.specs.Reading.{records, default_config, strip_bom}
use Rattle.ground_types.specs.declared.entries.Command.{Command}
use Rattle.ground_types.specs.declared.entries.Command.TheVariants.{Feed, Ask}
use Rattle.ground_types.specs.declared.entries.Query.TheVariants as query
use Rattle.ground_types.specs.Sound.{is_fluent_value}
use Rattle.ground_types.specs.declared.program.Program.{Program}
use Rattle.stream_read.specs.declared.script.Shape.{Shape}
use Rattle.stream_read.specs.declared.script.Shape.TheVariants as shape
use Rattle.stream_read.specs.declared.script.Placed.{Placed}
use Rattle.stream_read.specs.declared.script.Script.{Script}
use Rattle.stream_read.specs.declared.script.StreamRefused.{StreamRefused}
use Rattle.stream_read.specs.declared.script.StreamRefused.TheVariants as refused
use Rattle.stream_read.specs.declared.records.Meaning.{Meaning}
use Rattle.stream_read.specs.declared.records.Meaning.TheVariants.{Means, Ignored, NoForm}
use Rattle.stream_read.specs.Records.{meaning_of}

-- The records of a text: those that CSV readers read with commas and double quotes, without a
-- header row.
abbrev pub records_of : List ℕ → List (List (List ℕ))
records_of text = records default_config (strip_bom text)

-- the most records
abbrev pub most : ℕ
most = 2097152

abbrev pub has_no_form : Meaning → Bool
has_no_form (Means command) = false
has_no_form Ignored = false
has_no_form NoForm = true

abbrev pub is_ignored : Meaning → Bool
is_ignored (Means command) = false
is_ignored Ignored = true
is_ignored NoForm = false

-- the commands, each with the number of its record, from this number on
abbrev pub placed_from : ℕ → List Meaning → List Placed
placed_from number [] = []
placed_from number (Means command ∷ rest) = record { place = number; command = command }
    ∷ placed_from (number + 1) rest
placed_from number (Ignored ∷ rest) = placed_from (number + 1) rest
placed_from number (NoForm ∷ rest) = placed_from (number + 1) rest

-- the first record without a form, counted from 1; else that there are too many; else the commands
-- and how many are ignored
abbrev pub answer_by : Option ℕ → Bool → List Meaning → Result Script StreamRefused
answer_by (Some place) more meanings = Err (refused.BadRecord (place + 1))
answer_by None true meanings = Err refused.TooMany
answer_by None false meanings = Ok (record {
  commands = placed_from 1 meanings;
  ignored =
      length (filter is_ignored meanings);
})

-- what records come to, of which at most so many may be: of those past them only that there are
-- some counts
abbrev pub script_within : ℕ → Program → Shape → List (List (List ℕ)) → Result Script StreamRefused
script_within bound program shape rows =
    let meanings = map (meaning_of program shape) (take bound rows) in
    answer_by (position has_no_form meanings) (nat_lt bound (length rows)) meanings

-- What the records of a script come to.
abbrev pub script_of : Program → Shape → List (List (List ℕ)) → Result Script StreamRefused
script_of program shape rows = script_within most program shape rows

-- what was answered is what the records come to, unless memory ran out
abbrev pub Answers : Result Script StreamRefused → Result Script StreamRefused → Type 0
Answers (Err refused.OutOfMemory) given = Unit {0}
Answers answer given = answer ≡ given

-- a feeder has a number of 1 to 8
abbrev pub IsShape : Shape → Type 0
IsShape (shape.Feeder number) = (1 ≤ number) × (number ≤ 8)
IsShape other = Unit {0}

-- an add or a revoke is of a feeder of 1 to 8 and of an event of the program, and a question for a
-- value is for one of a fluent of it
abbrev pub IsOfProgram : Program → Command → Type 0
IsOfProgram program (Feed feeder act event at) = (1 ≤ feeder) × (feeder ≤ 8)
    × (event < program.events)
IsOfProgram program (Ask (query.Holds unit v at)) = is_fluent_value program
    (slice_get program.units unit) v ≡ true
IsOfProgram program command = Unit {0}

abbrev pub AreOfProgram : Program → List Placed → Type 0
AreOfProgram program [] = Unit {0}
AreOfProgram program (placed ∷ rest) = IsOfProgram program placed.command
    × AreOfProgram program rest
