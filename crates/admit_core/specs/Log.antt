-- Public contracts speak by this: what was told and answered, and what is counted of it.
use Rattle.std.specs.Prelude.{◌≡◌, ◌<◌, ◌≤◌, ℕ, ◌-◌, Bool, false, ◌==◌, List, [], ◌∷◌, length}
use Rattle.std.specs.Prelude.{count_by, slice_index}
use Rattle.ground_types.specs.History.{IsLegal, seals}
use Rattle.ground_types.specs.Windows.{IsSoundPlan}
use Rattle.ground_types.specs.declared.plan.Plan.{Plan}
use Rattle.ground_types.specs.declared.entries.Entry.{Entry}
use Rattle.ground_types.specs.declared.entries.Entry.TheVariants.{Fed, Seal}
use Rattle.admit_core.specs.declared.front.Front.{Front}

-- what an `AdmitState` stands for: the plan, how many events there are, how many entries there may
-- be, and the history so far
pub record Log : Type 0 where
  pub plan : Plan
  pub events : ℕ
  pub cap : ℕ
  pub history : List Entry

-- a feed is of a feeder from 1 to 8, and of an event of the log
abbrev pub IsOfLog : ℕ → Entry → Type 0
IsOfLog events (Fed feeder act event at reply) = (1 ≤ feeder) × (feeder ≤ 8) × (event < events)
IsOfLog events (Seal number) = Unit {0}

-- so is each feed of a list
abbrev pub AreOfLog : ℕ → List Entry → Type 0
AreOfLog events [] = Unit {0}
AreOfLog events (entry ∷ rest) = IsOfLog events entry × AreOfLog events rest

-- what every log keeps: a sound plan, and a legal history of at most `cap` entries, whose feeds are
-- of feeders and events that there are
pub record IsKept (log : Log) : Type 0 where
  pub plan : IsSoundPlan log.plan
  pub legal : IsLegal log.plan log.history
  pub entries : AreOfLog log.events log.history
  pub few : length log.history ≤ log.cap

-- the entry is an add or a revoke of this feeder
abbrev pub is_fed_by : ℕ → Entry → Bool
is_fed_by feeder (Fed f act event at reply) = f == feeder
is_fed_by feeder (Seal number) = false

-- the numbers of a front are those of a history: of its entries, of its seals, and of the entries
-- of each feeder
pub record AreCounts (front : Front) (history : List Entry) : Type 0 where
  pub entries : front.entries ≡ length history
  pub seals : front.seals ≡ seals history
  pub fed : (feeder : ℕ) → 1 ≤ feeder → feeder ≤ 8 → slice_index front.fed (feeder - 1)
      ≡ count_by (is_fed_by feeder) history
