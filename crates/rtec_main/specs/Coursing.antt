-- For private functions alone: what a run has come to after some of its commands.
use Rattle.std.specs.Prelude.{◌≡◌, ◌<◌, ℕ, ◌+◌, Bool, true, false, List, [], ◌∷◌, ◌++◌, length}
use Rattle.std.specs.Prelude.{slice_get, Some}
use Rattle.ground_types.specs.History.{seals}
use Rattle.ground_types.specs.declared.entries.Command.{Command}
use Rattle.ground_types.specs.declared.entries.Command.TheVariants as command
use Rattle.ground_types.specs.declared.entries.Entry.{Entry}
use Rattle.ground_types.specs.declared.program.Program.{Program}
use Rattle.query_ask.specs.Right.{Parts}
use Rattle.admit_core.specs.Log.{Log}
use Rattle.delay_revise.specs.Revising.{Revising, none_kept, closed, number_of, IsPublished}
use Rattle.stream_read.specs.Scripts.{IsOfProgram}
use Rattle.text_pieces.specs.Lines.{text_of_lines}
use Rattle.report_text.specs.Report.{command_lines}
use Rattle.rtec_main.specs.declared.course.Course.{Course}

-- publications of the queries from this number on, in order
abbrev pub ArePublished : Program → List Entry → ℕ → List Parts → Type 0
ArePublished program history k [] = Unit {0}
ArePublished program history k (parts ∷ rest) = IsPublished program history k parts
    × ArePublished program history (k + 1) rest

-- a reviser that may take so many entries, has taken these, and has no open chunk
abbrev pub reviser_of : Program → ℕ → List Entry → Revising
reviser_of program cap taken = record {
  program = program;
  cap = cap;
  taken = taken;
  has_chunk = false;
  applied = false;
  layer = 0;
  kept = none_kept program;
}

-- Log and reviser are of one program. The reviser has taken the history up to its last seal, and
-- for each seal there is a publication.
pub record IsAbreast (course : Course) : Type 0 where
  pub plan : course.log.plan ≡ course.names.plan
  pub events : course.log.events ≡ course.names.events
  pub taken : List Entry
  pub rest : List Entry
  pub reviser : course.reviser ≡ reviser_of course.names course.log.cap taken
  pub joined : taken ++ rest ≡ course.log.history
  pub unsealed : seals rest ≡ 0
  pub published : ArePublished course.names course.log.history 0 course.board
  pub each : length course.board ≡ seals course.log.history

-- what is published of the open chunk may follow these
pub record IsNextOn (reviser : Revising) (board : List Parts) : Type 0 where
  pub number : number_of reviser ≡ length board
  pub programs : (j : ℕ) (parts : Parts) → slice_get board j ≡ Some parts →
      parts.program ≡ reviser.program

-- and go on the board
abbrev pub IsNext : Course → Type 0
IsNext course = IsNextOn course.reviser course.board

-- there is room for the entry of a command, and a query for a seal
abbrev pub HasPlace : Log → Command → Type 0
HasPlace log (command.Feed feeder act event at) = length log.history < log.cap
HasPlace log command.Seal = (length log.history < log.cap) × (seals log.history < log.plan.queries)
HasPlace log other = Unit {0}

-- a publication of the open chunk is made, and goes on the board
pub record Publishes (old new : Course) (parts : Parts) : Type 0 where
  pub is : IsPublished old.reviser.program old.reviser.taken (number_of old.reviser) parts
  pub board : new.board ≡ old.board ++ parts ∷ []
  pub reviser : new.reviser ≡ closed old.reviser
  pub names : new.names ≡ old.names
  pub log : new.log ≡ old.log

-- each command is of the program
abbrev pub AreCommandsOf : Program → List Command → Type 0
AreCommandsOf program [] = Unit {0}
AreCommandsOf program (command ∷ rest) = IsOfProgram program command
    × AreCommandsOf program rest

-- what stands before the end of the text that is asked for
abbrev pub lead_text : Bool → Program → List Command → List ℕ
lead_text true program commands = text_of_lines (command_lines program [] commands)
lead_text false program commands = []
