-- Public contracts speak by this: what a reviser stands for, and what its calls ask and answer.
use Rattle.std.specs.Prelude.{◌≡◌, ◌<◌, ◌≤◌, ℕ, ◌+◌, ◌-◌, nat_lt, Bool, true, false, ◌&&◌, List, []}
use Rattle.std.specs.Prelude.{◌++◌, map, length, replicate, slice_get}
use Rattle.std.specs.Prelude.{sum_by, option_map}
use Rattle.std.specs.Prelude.{if◌then◌else◌, Option, None, Some}
use Rattle.std.specs.List.{list_all, slice_index_or}
use Rattle.ground_types.specs.History.{IsLegal, is_seal, seals, before_seal}
use Rattle.ground_types.specs.Publication.{opening_of, events_of_query, publication, query_table}
use Rattle.ground_types.specs.Recognition.{kind_of}
use Rattle.ground_types.specs.Rows.{points}
use Rattle.ground_types.specs.Touched.{evaluations, evaluations_of_unit, rules_of}
use Rattle.ground_types.specs.Truth.{happens}
use Rattle.ground_types.specs.Windows.{left, right}
use Rattle.ground_types.specs.declared.entries.Entry.{Entry}
use Rattle.ground_types.specs.declared.entries.Entry.TheVariants.{Fed, Seal}
use Rattle.ground_types.specs.declared.program.Unit.{Unit}
use Rattle.ground_types.specs.declared.program.Program.{Program}
use Rattle.layer_cache.specs.Cached.{empty_rows}
use Rattle.span_algebra.specs.declared.rows.UnitRows.{UnitRows}
use Rattle.query_ask.specs.Right.{Parts, published}

-- What a reviser stands for: its program, how many entries it may take, the entries of all chunks
-- that it took, the open one too; whether a chunk is open, whether that one is brought to the
-- standing events, how many of its layers are ended, and for each unit whether its rows are kept.
pub record Revising : Type 0 where
  pub program : Program
  pub cap : ℕ
  pub taken : List Entry
  pub has_chunk : Bool
  pub applied : Bool
  pub layer : ℕ
  pub kept : List Bool

-- nothing is kept of any unit
abbrev pub none_kept : Program → List Bool
none_kept program = replicate (length program.units) false

-- nothing is taken yet
abbrev pub new_reviser : Program → ℕ → Revising
new_reviser program cap = record {
  program = program;
  cap = cap;
  taken = [];
  has_chunk = false;
  applied = false;
  layer = 0;
  kept = none_kept program;
}

-- the same history without an open chunk
abbrev pub closed : Revising → Revising
closed reviser = record {
  program = reviser.program;
  cap = reviser.cap;
  taken = reviser.taken;
  has_chunk = false;
  applied = false;
  layer = 0;
  kept = none_kept reviser.program;
}

-- the feeds are of events of the program
abbrev pub is_of : ℕ → Entry → Bool
is_of events (Fed feeder act event at reply) = nat_lt event events
is_of events (Seal number) = true

-- A chunk that may be taken: none is open and there is room for it; it ends with its one seal; it
-- goes on the history legally; and its events are the program's.
pub record MayTake (reviser : Revising) (chunk : List Entry) : Type 0 where
  pub none_open : reviser.has_chunk ≡ false
  pub room : length reviser.taken + length chunk ≤ reviser.cap
  pub sealed : seals chunk ≡ 1
  pub ends : option_map is_seal (slice_get chunk (length chunk - 1)) ≡ Some true
  pub legal : IsLegal reviser.program.plan (reviser.taken ++ chunk)
  pub events : list_all (is_of reviser.program.events) chunk ≡ true

-- the number of the query of the open chunk
abbrev pub number_of : Revising → ℕ
number_of reviser = seals reviser.taken - 1

-- the units of the open layer; none where all are ended
abbrev pub layer_or_none : Option (List ℕ) → List ℕ
layer_or_none None = []
layer_or_none (Some layer) = layer

abbrev pub open_units : Revising → List ℕ
open_units reviser = layer_or_none (slice_get reviser.program.layers reviser.layer)

-- the number of the open layer, from 1 on; none where no chunk is open or all layers are ended
abbrev pub open_layer : Revising → Option ℕ
open_layer reviser =
    if reviser.has_chunk && nat_lt reviser.layer (length reviser.program.layers)
    then Some (reviser.layer + 1) else None

abbrev pub is_kept : Revising → ℕ → Bool
is_kept reviser unit = slice_index_or reviser.kept unit false

-- what was made for a unit: its rows, or none where they are the empty ones, and how many
-- evaluations its rules count
pub record Made : Type 0 where
  pub rows : Option UnitRows
  pub evaluations : ℕ

abbrev pub rows_or_empty : Program → Option UnitRows → Unit → UnitRows
rows_or_empty program None unit = empty_rows program unit
rows_or_empty program (Some rows) unit = rows

-- it is that of the unit for the open chunk
pub record IsWorkOf (reviser : Revising) (unit : ℕ) (made : Made) : Type 0 where
  pub rows : option_map (λ u. published (rows_or_empty reviser.program made.rows u))
      (slice_get reviser.program.units unit)
      ≡ slice_get (publication reviser.program reviser.taken (number_of reviser)).rows unit
  pub evaluations : made.evaluations
      ≡ evaluations_of_unit reviser.program reviser.taken (number_of reviser) unit

-- These parts are those of pub_k of a history, with the count of its evaluations; a seal k stands
-- in the history.
pub record IsPublished (program : Program) (history : List Entry) (k : ℕ) (parts : Parts) : Type 0
  where
    pub sealed : k < seals history
    pub number : parts.number ≡ k
    pub front : parts.front ≡ length (before_seal history k) + 1
    pub program_is : parts.program ≡ program
    pub opening : parts.opening ≡ opening_of program history k
    pub events : parts.events ≡ events_of_query program history k
    pub rows : map published parts.rows ≡ (publication program history k).rows
    pub evaluations_are : parts.evaluations ≡ evaluations program history k

-- at how many points of the window of query k the triggers of a unit's rules occur
abbrev pub trigger_points_of_unit : Program → List Entry → ℕ → ℕ → ℕ
trigger_points_of_unit program history k unit =
    sum_by (λ rule. length (points (happens (query_table program history k) rule.trigger)
    (left program.plan k) (right program.plan k))) (rules_of (kind_of program unit))

-- so for all units, layer by layer
abbrev pub trigger_points : Program → List Entry → ℕ → ℕ
trigger_points program history k =
    sum_by (λ layer. sum_by (trigger_points_of_unit program history k) layer) program.layers
