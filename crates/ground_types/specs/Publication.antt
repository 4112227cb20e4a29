-- Public contracts speak by this: *Events of a query* and *Publication of a history*, what is
-- published at a seal, a function of the program and the history alone.
use Rattle.std.specs.Prelude.{◌≡◌, ◌<◌, ℕ, zero, suc, ◌+◌, List, map, flat_map, length, slice_get}
use Rattle.std.specs.Prelude.{Option, None, Some}
use Rattle.std.specs.List.{range_with_len, enumerate_from}
use Rattle.ground_types.specs.Windows.{left, right}
use Rattle.ground_types.specs.Truth.{Table, holds}
use Rattle.ground_types.specs.Recognition.{recognition, is_among, listed}
use Rattle.ground_types.specs.Rows.{row, points}
use Rattle.ground_types.specs.History.{stands, before_seal, seals}
use Rattle.ground_types.specs.declared.entries.Entry.{Entry}
use Rattle.ground_types.specs.declared.entries.Occ.{Occ}
use Rattle.ground_types.specs.declared.program.UnitKind.{UnitKind}
use Rattle.ground_types.specs.declared.program.UnitKind.TheVariants.{Simple, Static, Derived}
use Rattle.ground_types.specs.declared.program.Name.{Name}
use Rattle.ground_types.specs.declared.program.Program.{Program}

-- *Events of a query*: which of the program's events stand at seal k and lie in its window, by
-- event and then by point
abbrev pub events_of_query : Program → List Entry → ℕ → List Occ
events_of_query program history k =
    flat_map
    (λ event. map (λ t. record { event = event; at = t })
    (points (stands (before_seal history k) event) (left program.plan k) (right program.plan k)))
    (range_with_len 0 program.events)

-- the value with which a unit opens query 0: for a simple fluent its initial value, where it has
-- one
abbrev pub initial_of : UnitKind → Option ℕ
initial_of (Simple initially initiate terminate) = initially
initial_of (Static exprs) = None
initial_of (Derived rules) = None

-- what is true in query k of these opening values
abbrev pub query_from : Program → List Entry → ℕ → List (Option ℕ) → Table
query_from program history k opening =
    recognition program (listed opening) (is_among (events_of_query program history k))
    (left program.plan k) (right program.plan k)

-- o_k, the value with which each unit opens query k: at k = 0 its initial value, later what query k
-- - 1 gives it at the first value point of query k
abbrev pub opening_of : Program → List Entry → ℕ → List (Option ℕ)
opening_of program history zero = map (λ unit. initial_of unit.kind) program.units
opening_of program history (suc k) =
    map (λ unit. (query_from program history k (opening_of program history k)).value unit
    (left program.plan (suc k) + 1))
    (range_with_len 0 (length program.units))

-- what is true in query k
abbrev pub query_table : Program → List Entry → ℕ → Table
query_table program history k = query_from program history k (opening_of program history k)

-- the rows of a unit: one for each value of a fluent, or the points of a derived event
pub data PublishedRows : Type 0 where
  fluent_rows : List (List (ℕ × ℕ)) → PublishedRows
  event_row : List ℕ → PublishedRows

-- how many values a name has
abbrev pub value_count : Option Name → ℕ
value_count None = 0
value_count (Some name) = length name.values

-- the rows of the unit of this number with so many values, from a table of the window (w, q]
abbrev pub rows_of_kind : Table → ℕ → ℕ → UnitKind → ℕ → ℕ → PublishedRows
rows_of_kind table number count (Simple initially initiate terminate) w q =
    fluent_rows (map (λ v. row (holds table number v) w q) (range_with_len 0 count))
rows_of_kind table number count (Static exprs) w q =
    fluent_rows (map (λ v. row (holds table number v) w q) (range_with_len 0 count))
rows_of_kind table number count (Derived rules) w q = event_row (points (table.derived number) w q)

-- *Rows* of all units, in their order
abbrev pub rows_of_table : Program → Table → ℕ → ℕ → List PublishedRows
rows_of_table program table w q =
    map (λ unit. rows_of_kind table unit.0 (value_count (slice_get program.names unit.1.name))
    unit.1.kind w q)
    (enumerate_from 0 program.units)

-- What is published of a query. The front is how many entries there are up to and with its seal.
pub record Published : Type 0 where
  pub number : ℕ
  pub front : ℕ
  pub opening : List (Option ℕ)
  pub events : List Occ
  pub rows : List PublishedRows

-- *Publication of a history*: pub_k(H), where a seal k stands in the history
abbrev pub publication : Program → List Entry → ℕ → Published
publication program history k = record {
  number = k;
  front = length (before_seal history k) + 1;
  opening = opening_of program history k;
  events = events_of_query program history k;
  rows = rows_of_table program (query_table program history k) (left program.plan k)
      (right program.plan k);
}

-- what is published is pub_k(H) of a seal k that stands in the history
pub record IsPublicationOf (program : Program) (history : List Entry) (published : Published) :
    Type 0 where
  pub sealed : published.number < seals history
  pub same : published ≡ publication program history published.number
