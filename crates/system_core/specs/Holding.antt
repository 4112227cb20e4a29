-- For private functions alone: what a system holds beside the state that it stands for.
use Rattle.std.specs.Prelude.{◌≡◌, ◌≤◌, ℕ, ◌+◌, Bool, true, false, ◌||◌, List, ◌++◌, length}
use Rattle.std.specs.Prelude.{map, slice_get, slice_index, is_some, Option, Some, None, Result, Err}
use Rattle.ground_types.specs.History.{seals}
use Rattle.ground_types.specs.Members.{contains}
use Rattle.ground_types.specs.declared.entries.Entry.{Entry}
use Rattle.ground_types.specs.declared.program.Program.{Program}
use Rattle.ground_types.specs.Sound.{IsSound}
use Rattle.query_ask.specs.Right.{Parts}
use Rattle.query_ask.specs.Answers.{said}
use Rattle.admit_core.specs.Log.{Log}
use Rattle.delay_revise.specs.Revising.{Revising, none_kept, is_kept, number_of, closed}
use Rattle.delay_revise.specs.Revising.{IsPublished}
use Rattle.system_core.specs.Core.{Core, Revision, open_layer, stepped}
use Rattle.system_core.specs.Claiming.{Claiming}
use Rattle.system_core.specs.declared.steps.Step.{Step}
use Rattle.system_core.specs.declared.steps.Outcome.{Outcome}
use Rattle.system_core.specs.declared.steps.StepRefused.{StepRefused}
use Rattle.system_core.specs.declared.steps.StepRefused.TheVariants as refused

-- a revision is open: its chunk is, or its publication is made and not put yet
abbrev pub is_open : Bool → Option Parts → Bool
is_open has_chunk made = has_chunk || is_some made

abbrev pub open_revision : Bool → Revision → Option Revision
open_revision true revision = Some revision
open_revision false revision = None

-- the state that log, claims, board and counts stand for
abbrev pub core_of : Claiming → Log → Revising → List Parts → List ℕ → Option Parts → Core
core_of claiming log reviser board seen made = record {
  program = claiming.program;
  cap = log.cap;
  history = log.history;
  list = map said board;
  seen = seen;
  revision = open_revision (is_open reviser.has_chunk made) claiming.revision;
}

-- a reviser that may take so many entries, has taken these, and has no open chunk
abbrev pub reviser_of : Program → ℕ → List Entry → Revising
reviser_of program cap taken = record {
  program = program;
  cap = cap;
  taken = taken;
  has_chunk = false;
  applied = false;
  layer = 0;
  kept = none_kept program;
}

-- with an open chunk, in which what is finished is kept
pub record IsWorking (claiming : Claiming) (cap : ℕ) (taken : List Entry) (reviser : Revising) :
    Type 0 where
  pub reviser_is : reviser ≡ record (reviser_of claiming.program cap taken) {
    has_chunk = true;
    applied = reviser.applied;
    layer = claiming.revision.layer;
    kept = reviser.kept;
  }
  pub places : length reviser.kept ≡ length claiming.program.units
  pub kept_are : (unit : ℕ) → contains claiming.revision.finished unit ≡ true
      → is_kept reviser unit ≡ true

-- the publication is made: all layers are turned, and the chunk is closed
pub record IsMade (claiming : Claiming) (cap : ℕ) (taken : List Entry) (reviser : Revising) (k : ℕ)
    (parts : Parts) : Type 0 where
  pub reviser_is : reviser ≡ reviser_of claiming.program cap taken
  pub turned : claiming.revision.layer ≡ length claiming.program.layers
  pub published_is : IsPublished claiming.program taken k parts

-- no revision is open
pub record IsResting (claiming : Claiming) (cap : ℕ) (taken : List Entry) (reviser : Revising) :
    Type 0 where
  pub reviser_is : reviser ≡ reviser_of claiming.program cap taken
  pub first : claiming.revision ≡ open_layer 0

-- Between the steps: no revision is open and each sealed query is published, or that of the last
-- seal is open, whose publication is the next one.
abbrev pub IsBetween : Claiming → ℕ → List Entry → Revising → ℕ → Option Parts → Bool → Type 0
IsBetween claiming cap taken reviser k (Some parts) has_chunk = IsMade claiming cap taken reviser k
    parts × (k + 1 ≡ seals taken)
IsBetween claiming cap taken reviser k None false = IsResting claiming cap taken reviser
    × (k ≡ seals taken)
IsBetween claiming cap taken reviser k None true = IsWorking claiming cap taken reviser
    × (k + 1 ≡ seals taken)

-- Log, claims and reviser are of one program, and the reviser has taken the history up to its last
-- seal. What is published is what the definitions say of the history, and no reader has seen more.
pub record IsHolding (claiming : Claiming) (log : Log) (reviser : Revising) (board : List Parts)
    (seen : List ℕ) (made : Option Parts) : Type 0 where
  pub sound : IsSound claiming.program
  pub plan : log.plan ≡ claiming.program.plan
  pub events : log.events ≡ claiming.program.events
  pub within : claiming.revision.layer ≤ length claiming.program.layers
  pub published_are : (j : ℕ) (parts : Parts) → slice_get board j ≡ Some parts →
      IsPublished claiming.program log.history j parts
  pub seen_are : (reader : ℕ) → slice_index seen reader ≤ length board
  pub taken : List Entry
  pub rest : List Entry
  pub joined : taken ++ rest ≡ log.history
  pub unsealed : seals rest ≡ 0
  pub few : seals log.history ≤ claiming.program.plan.queries
  pub between : IsBetween claiming log.cap taken reviser (length board) made reviser.has_chunk

-- the publication of the open chunk can be made, unless it is made already
abbrev pub IsDue : Revising → Option Parts → Type 0
IsDue reviser (Some parts) = Unit {0}
IsDue reviser None = (reviser.has_chunk ≡ true) × (reviser.layer ≡ length reviser.program.layers)

-- the publication that was made already, or that of the open chunk, which is closed then
abbrev pub IsNext : Revising → Option Parts → Revising → Parts → Type 0
IsNext old (Some made) new parts = (parts ≡ made) × (new ≡ old)
IsNext old None new parts = IsPublished old.program old.taken (number_of old) parts
    × (new ≡ closed old)

-- the step is done as the definition says, or there is no memory for it and nothing is changed
abbrev pub DoesOrNot : Core → Step → Core → Result Outcome StepRefused → Type 0
DoesOrNot old step new (Err refused.OutOfMemory) = new ≡ old
DoesOrNot old step new answer = (new, answer) ≡ stepped old step
