-- Public contracts speak by this: *Step of the core*, what each step changes and answers. What the
-- work of a unit gives is not in it: what is published is a function of program and history alone.
use Rattle.std.specs.Prelude.{◌≡◌, ◌≤◌, ℕ, ◌+◌, nat_lt, nat_le, Bool, true, not, ◌&&◌, ◌==◌, List}
use Rattle.std.specs.Prelude.{[], ◌∷◌, ◌++◌, length, find, replicate, take, slice_get, slice_set}
use Rattle.std.specs.Prelude.{slice_index}
use Rattle.std.specs.Prelude.{if◌then◌else◌, Option, None, Some, Result, Ok, Err}
use Rattle.std.specs.List.{list_all, range_with_len}
use Rattle.ground_types.specs.History.{seals, reply_to}
use Rattle.ground_types.specs.Members.{contains}
use Rattle.ground_types.specs.Publication.{Published, publication}
use Rattle.ground_types.specs.declared.entries.Act.{Act}
use Rattle.ground_types.specs.declared.entries.Entry.{Entry}
use Rattle.ground_types.specs.declared.entries.Entry.TheVariants as entry
use Rattle.ground_types.specs.declared.entries.Query.{Query}
use Rattle.ground_types.specs.declared.program.Program.{Program}
use Rattle.query_ask.specs.Answers.{answered, is_of_program}
use Rattle.system_core.specs.declared.steps.Step.{Step}
use Rattle.system_core.specs.declared.steps.Step.TheVariants as step
use Rattle.system_core.specs.declared.steps.Outcome.{Outcome}
use Rattle.system_core.specs.declared.steps.Outcome.TheVariants as outcome
use Rattle.system_core.specs.declared.steps.StepRefused.{StepRefused}
use Rattle.system_core.specs.declared.steps.StepRefused.TheVariants as refused

-- An open revision: the place of its open layer, from 0 on, which is the number of all layers where
-- each is turned; and the units of this layer that are claimed and that are finished, in the order
-- of the steps.
pub record Revision : Type 0 where
  pub layer : ℕ
  pub claimed : List ℕ
  pub finished : List ℕ

-- The state of the core: its program, how many entries its history may have, the history, what is
-- published, how many publications each reader has seen, and the open revision, if one is open.
pub record Core : Type 0 where
  pub program : Program
  pub cap : ℕ
  pub history : List Entry
  pub list : List Published
  pub seen : List ℕ
  pub revision : Option Revision

-- a layer of this place, with nothing claimed
abbrev pub open_layer : ℕ → Revision
open_layer layer = record { layer = layer; claimed = []; finished = [] }

-- before the first step
abbrev pub empty_core : Program → ℕ → ℕ → Core
empty_core program cap readers = record {
  program = program;
  cap = cap;
  history = [];
  list = [];
  seen = replicate readers 0;
  revision = None;
}

-- ---- what a step comes to: the state after it, and the answer

abbrev pub Stepped : Type 0
Stepped = Core × Result Outcome StepRefused

-- a refused step changes nothing
abbrev pub refuse : Core → StepRefused → Stepped
refuse core why = (core, Err why)

-- Feed appends its entry with its reply
abbrev pub fed : Core → ℕ → Act → ℕ → ℕ → Stepped
fed core feeder act event at =
    let reply = reply_to core.program.plan core.history act event at in (
      record core {
        history = core.history ++ entry.Fed feeder act event at reply ∷ [];
      },
      Ok (outcome.Replied reply),
    )

abbrev pub feed : Core → ℕ → Act → ℕ → ℕ → Stepped
feed core feeder act event at = if length core.history == core.cap then refuse core refused.LogFull
    else fed core feeder act event at

-- Seal appends a seal and opens a revision at the first layer
abbrev pub sealed : Core → Stepped
sealed core = (
  record core {
    history = core.history ++ entry.Seal (seals core.history) ∷ [];
    revision = Some (open_layer 0);
  },
  Ok (outcome.Sealed (seals core.history)),
)

abbrev pub seal_next : Core → Stepped
seal_next core = if seals core.history == core.program.plan.queries
    then refuse core refused.NoMoreQueries else sealed core

abbrev pub seal : Core → Option Revision → Stepped
seal core (Some revision) = refuse core refused.Busy
seal core None = if length core.history == core.cap then refuse core refused.LogFull
    else seal_next core

-- the units of a layer; none where there is no such layer
abbrev pub units_of : Option (List ℕ) → List ℕ
units_of None = []
units_of (Some layer) = layer

abbrev pub layer_units : Program → ℕ → List ℕ
layer_units program layer = units_of (slice_get program.layers layer)

-- the lowest unit of the layer that is not claimed
abbrev pub lowest_unclaimed : Program → Revision → Option ℕ
lowest_unclaimed program revision =
    find (λ unit. contains (layer_units program revision.layer) unit
    && not (contains revision.claimed unit)) (range_with_len 0 (length program.units))

-- Claim gives it out
abbrev pub claim_unit : Core → Revision → Option ℕ → Stepped
claim_unit core revision None = refuse core refused.NoUnit
claim_unit core revision (Some unit) = (
  record core {
    revision = Some (record revision { claimed = revision.claimed ++ unit ∷ [] });
  },
  Ok (outcome.Claimed unit),
)

abbrev pub claim : Core → Option Revision → Stepped
claim core None = refuse core refused.Idle
claim core (Some revision) = claim_unit core revision (lowest_unclaimed core.program revision)

-- a unit of the layer is claimed and not finished
abbrev pub is_worked : Revision → ℕ → Bool
is_worked revision unit = contains revision.claimed unit && not (contains revision.finished unit)

-- Finish takes it back
abbrev pub finish_unit : Core → Revision → ℕ → Stepped
finish_unit core revision unit = (
  record core {
    revision = Some (record revision { finished = revision.finished ++ unit ∷ [] });
  },
  Ok outcome.Finished,
)

abbrev pub finish : Core → Option Revision → ℕ → Stepped
finish core None unit = refuse core refused.Idle
finish core (Some revision) unit = if is_worked revision unit then finish_unit core revision unit
    else refuse core refused.NotClaimed

-- a layer is not turned yet
abbrev pub has_layer : Program → Revision → Bool
has_layer program revision = nat_lt revision.layer (length program.layers)

-- each unit of the layer is finished
abbrev pub is_finished : Program → Revision → Bool
is_finished program revision = list_all (contains revision.finished)
    (layer_units program revision.layer)

-- Turn goes to the next layer
abbrev pub turn_layer : Core → Revision → Stepped
turn_layer core revision = if is_finished core.program revision
    then (record core { revision = Some (open_layer (revision.layer + 1)) }, Ok outcome.Turned)
    else refuse core refused.LayerOpen

abbrev pub turn : Core → Option Revision → Stepped
turn core None = refuse core refused.Idle
turn core (Some revision) = if has_layer core.program revision then turn_layer core revision
    else refuse core refused.LayersDone

-- Publish appends what is published of the next query of the history, and closes the revision
abbrev pub published : Core → Stepped
published core = (
  record core {
    list = core.list ++ publication core.program core.history (length core.list) ∷ [];
    revision = None;
  },
  Ok (outcome.Published (length core.list)),
)

abbrev pub publish : Core → Option Revision → Stepped
publish core None = refuse core refused.Idle
publish core (Some revision) = if has_layer core.program revision
    then refuse core refused.LayersLeft else published core

-- Read shows the reader the whole list
abbrev pub read : Core → ℕ → Query → Stepped
read core reader query = (
  record core {
    seen = slice_set core.seen reader (length core.list);
  },
  Ok (outcome.Read (length core.list) (answered core.program.plan core.list query)),
)

-- *Step of the core*
abbrev pub stepped : Core → Step → Stepped
stepped core (step.Feed feeder act event at) = feed core feeder act event at
stepped core step.Seal = seal core core.revision
stepped core step.Claim = claim core core.revision
stepped core (step.Finish unit) = finish core core.revision unit
stepped core step.Turn = turn core core.revision
stepped core step.Publish = publish core core.revision
stepped core (step.Read reader query) = read core reader query

-- ---- lists of steps

-- the state after some steps
abbrev pub core_after : Core → List Step → Core
core_after core [] = core
core_after core (step ∷ rest) = core_after (stepped core step).0 rest

-- the state after the steps of some prefix
abbrev pub IsAfterSome : Core → List Step → Core → Type 0
IsAfterSome old steps new = (n : ℕ) × (n ≤ length steps) × (new ≡ core_after old (take n steps))

-- a refusal is an outcome too
abbrev pub outcome_of : Result Outcome StepRefused → Outcome
outcome_of (Ok outcome) = outcome
outcome_of (Err why) = outcome.Refused why

-- the outcome of each of some steps
abbrev pub outcomes : Core → List Step → List Outcome
outcomes core [] = []
outcomes core (step ∷ rest) = outcome_of (stepped core step).1 ∷ outcomes (stepped core step).0 rest

-- ---- which steps there are

-- a feed is of a feeder from 1 to 8 and of an event of the program, a question by one of the
-- readers and of the program
abbrev pub is_step_of : Program → ℕ → Step → Bool
is_step_of program readers (step.Feed feeder act event at) = nat_le 1 feeder && nat_le feeder 8
    && nat_lt event program.events
is_step_of program readers (step.Read reader query) = nat_lt reader readers
    && is_of_program program query
is_step_of program readers other = true

abbrev pub may_step : Core → Step → Bool
may_step core step = is_step_of core.program (length core.seen) step

abbrev pub may_run : Core → List Step → Bool
may_run core steps = list_all (may_step core) steps

-- no step changes the program, how many entries there may be, or how many readers there are
pub record IsMadeAlike (old new : Core) : Type 0 where
  pub program : new.program ≡ old.program
  pub cap : new.cap ≡ old.cap
  pub readers : length new.seen ≡ length old.seen

-- no reader has seen more than there is
abbrev pub SeenMost : Core → Type 0
SeenMost core = (reader : ℕ) → slice_index core.seen reader ≤ length core.list

-- each reader has seen at least what it had seen before, and at most what there is
pub record SeesMore (old new : Core) : Type 0 where
  pub least : (reader : ℕ) → slice_index old.seen reader ≤ slice_index new.seen reader
  pub most : SeenMost new
