-- For private functions alone: what a reviser knows of the words that it was told, of the store, of
-- the rows and of the openings.
use Rattle.std.specs.Prelude.{◌≡◌, ◌<◌, ◌≤◌, ℕ, zero, suc, ◌^◌, Bool, true, false, nat_lt, List, []}
use Rattle.std.specs.Prelude.{◌∷◌}
use Rattle.std.specs.Prelude.{◌++◌, map, flat_map, length, take, slice_get, Option, None, Some}
use Rattle.std.specs.Prelude.{is_some, option_map, replicate}
use Rattle.std.specs.List.{list_all, slice_index_or}
use Rattle.ground_types.specs.History.{IsLegal, seals, stands, before_seal}
use Rattle.ground_types.specs.Members.{contains}
use Rattle.ground_types.specs.Publication.{publication, opening_of}
use Rattle.ground_types.specs.Sound.{IsSound, unit_values}
use Rattle.ground_types.specs.Touched.{evaluations_of_unit}
use Rattle.ground_types.specs.Windows.{left, right}
use Rattle.ground_types.specs.declared.entries.Entry.{Entry}
use Rattle.ground_types.specs.declared.entries.Entry.TheVariants.{Seal}
use Rattle.ground_types.specs.declared.plan.Plan.{Plan}
use Rattle.ground_types.specs.declared.program.Program.{Program}
use Rattle.event_store.specs.Standing.{Events, standing, stood}
use Rattle.event_store.specs.Words.{last_word, after_words}
use Rattle.event_store.specs.declared.told.Told.{Told}
use Rattle.layer_cache.specs.Cached.{all_empty, unit_shapes}
use Rattle.layer_cache.specs.Rows.{Cached}
use Rattle.layer_cache.specs.Shapes.{shapes}
use Rattle.query_ask.specs.Right.{published}
use Rattle.span_algebra.specs.Normal.{has}
use Rattle.span_algebra.specs.declared.rows.UnitRows.{UnitRows}
use Rattle.delay_revise.specs.Published.{OccurIn, OccurBefore}
use Rattle.delay_revise.specs.Revising.{Revising, is_of}

-- query q is the first from query k on whose window does not end before the point
pub record IsDue (plan : Plan) (k q t : ℕ) : Type 0 where
  pub from : k ≤ q
  pub within : t ≤ right plan q
  pub first : (j : ℕ) → k ≤ j → j < q → right plan j < t

-- Entries of a history are brought to the store, and to the words that wait for a query from k on:
-- what an event comes to at a point in the window of such a query, by the words that wait for the
-- first of these queries that has it, is whether it stands after the entries.
pub record AreTold (program : Program) (entries : List Entry) (k : ℕ) (store : Events)
    (ahead : List (List Told)) : Type 0 where
  pub size : length ahead ≡ program.plan.queries
  pub words : (event t q : ℕ) → left program.plan k < t → q < program.plan.queries
      → IsDue program.plan k q t → after_words (slice_index_or ahead q []) event t
      (has (standing store event) t) ≡ stands entries event t
  pub due : (q event t : ℕ) → k ≤ q
      → is_some (last_word (slice_index_or ahead q []) event t) ≡ true → IsDue program.plan k q t
  pub ahead_known : (q event t : ℕ)
      → is_some (last_word (slice_index_or ahead q []) event t) ≡ true → event < program.events
  pub known : (event t : ℕ) → has (standing store event) t ≡ true → event < program.events

-- of the query before, if there is one, its events stood in the store where the windows overlap,
-- and its rows are the old ones
pub record IsAfter (program : Program) (history : List Entry) (k : ℕ) (store : Events)
    (before : List UnitRows) : Type 0 where
  pub events : (j : ℕ) → k ≡ suc j → OccurBefore program history j (stood store)
  pub rows : (j : ℕ) → k ≡ suc j → map published before ≡ (publication program history j).rows

-- a count is there for the unit
abbrev pub is_counted : List (Option ℕ) → ℕ → Bool
is_counted counts unit = slice_index_or (map is_some counts) unit false

-- the units that have a count have the rows and the count of query k, and the others the empty rows
pub record AreKept (program : Program) (history : List Entry) (k : ℕ) (rows : List UnitRows)
    (counts : List (Option ℕ)) : Type 0 where
  pub size : length counts ≡ length program.units
  pub each : (unit count : ℕ) → slice_get counts unit ≡ Some (Some count) →
      (option_map published (slice_get rows unit) ≡ slice_get (publication program history k).rows
      unit)
      × (count ≡ evaluations_of_unit program history k unit)
  pub others : (unit : ℕ) → slice_get counts unit ≡ Some None
      → slice_get rows unit ≡ slice_get (all_empty program) unit

-- the units of the layers that are ended have a count
abbrev pub AreEnded : Program → ℕ → List (Option ℕ) → Type 0
AreEnded program layer counts =
    (unit : ℕ) → contains (flat_map (λ layer. layer) (take layer program.layers)) unit ≡ true
    → is_counted counts unit ≡ true

-- the chunk of query k is open: its seal, the only one of the chunk, is the last entry
pub record IsOpen (history : List Entry) (k : ℕ) : Type 0 where
  pub seal : ℕ
  pub last : history ≡ before_seal history k ++ Seal seal ∷ []

-- the open chunk is brought to the store: the events of the window stand there as at the seal, the
-- words that wait are those for later queries, and the opening values are there
pub record IsApplied (program : Program) (history : List Entry) (k : ℕ) (store : Events)
    (ahead : List (List Told)) (opening : List (Option ℕ)) : Type 0 where
  pub events : OccurIn program history k (λ event t. has (standing store event) t)
  pub next : AreTold program history (suc k) store ahead
  pub opening_is : opening ≡ opening_of program history k

-- each unit has fewer than 2^32 values, and there are fewer than 2^32 layers
pub record IsSmall (program : Program) : Type 0 where
  pub values : list_all (λ unit. nat_lt (unit_values program unit) (2 ^ 32)) program.units ≡ true
  pub layers : length program.layers < 2 ^ 32

-- the parts of a reviser that contracts do not see: the number of the open query, or of the next
-- one; how many entries are brought on; and the rest
pub record Parts : Type 0 where
  pub number : ℕ
  pub placed : ℕ
  pub room : ℕ
  pub cached : Cached
  pub store : Events
  pub ahead : List (List Told)
  pub opening : List (Option ℕ)
  pub counts : List (Option ℕ)

-- how many seals are taken where a query is open, and where none is
abbrev pub sealed_until : Bool → ℕ → ℕ
sealed_until true number = suc number
sealed_until false number = number

-- what a reviser keeps
pub record IsRevising (r : Revising) (p : Parts) : Type 0 where
  pub sound : IsSound r.program
  pub small : IsSmall r.program
  pub legal : IsLegal r.program.plan r.taken
  pub few : length r.taken ≤ r.cap
  pub cap : r.cap < 2 ^ 32
  pub roomy : r.cap ≤ p.room
  pub seals_are : seals r.taken ≡ sealed_until r.has_chunk p.number
  pub events : list_all (is_of r.program.events) r.taken ≡ true
  pub placed : p.placed ≤ length r.taken
  pub told : AreTold r.program (take p.placed r.taken) p.number p.store p.ahead
  pub after : IsAfter r.program r.taken p.number p.store p.cached.before
  pub shapes_now : shapes p.cached.rows ≡ unit_shapes r.program
  pub shapes_before : shapes p.cached.before ≡ unit_shapes r.program
  pub kept : AreKept r.program r.taken p.number p.cached.rows p.counts
  pub ended : AreEnded r.program r.layer p.counts
  pub layer_most : r.layer ≤ length r.program.layers
  pub idle : r.has_chunk ≡ false → (p.placed ≡ length r.taken) × (r.applied ≡ false)
      × (p.counts ≡ replicate (length r.program.units) None)
  pub opened : r.has_chunk ≡ true → IsOpen r.taken p.number
  pub brought : r.applied ≡ true → p.placed ≡ length r.taken
  pub applied : r.applied ≡ true → IsApplied r.program r.taken p.number p.store p.ahead p.opening

-- the right border of the query before, if there is one
abbrev pub end_before : Plan → ℕ → Option ℕ
end_before plan zero = None
end_before plan (suc k) = Some (right plan k)
