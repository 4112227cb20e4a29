-- What is looked up in the rows of units that are those of a query is what is true in it.
use Rattle.std.proofs.Common.{◌≡◌, ℕ, ◌+◌, ◌-◌, ◌<◌, ◌≤◌, Bool, true, false, not, cond}
use Rattle.std.proofs.Common.{◌&&◌}
use Rattle.std.proofs.Common.{leb, ltb, nat_lt, List, [], ◌∷◌, map, flat_map, slice_get}
use Rattle.std.proofs.Common.{Option, Some, None, refl, sym, ◌∙◌, ap, ap₂, arith}
use Rattle.std.specs.Prelude.{option_map}
use Rattle.std.specs.List.{list_all, range_with_len}
use Rattle.std.proofs.lemmas.Bool.Decides.{nat_tests}
use Rattle.std.proofs.lemmas.List.Folds.{list_all-append}
use Rattle.std.proofs.lemmas.Option.{slice_get-map}
use Rattle.std.proofs.lemmas.Bool.{and_parts}
use Rattle.ground_types.specs.Meaning.{IsMeaning, units_of_trigger, units_of_what, units_of_rule}
use Rattle.ground_types.specs.Members.{contains}
use Rattle.ground_types.specs.Publication.{rows_of_kind, value_count, opening_of}
use Rattle.ground_types.specs.Publication.{events_of_query, query_table, publication}
use Rattle.ground_types.specs.Recognition.{is_among, listed}
use Rattle.ground_types.specs.Rows.{covers, row, points}
use Rattle.ground_types.specs.Sound.{IsSound, unit_values, is_fluent, is_fluent_value}
use Rattle.ground_types.specs.Sound.{is_derived_event, trigger_fits, what_fits, rule_fits}
use Rattle.ground_types.specs.Truth.{Table, holds, happens, is_so, condition_holds, body_holds}
use Rattle.ground_types.specs.Windows.{left, right}
use Rattle.ground_types.proofs.Layers.{layers_are_meaning}
use Rattle.ground_types.proofs.Points.{points_are}
use Rattle.ground_types.specs.declared.entries.Entry.{Entry}
use Rattle.ground_types.specs.declared.program.Cond.{Cond}
use Rattle.ground_types.specs.declared.program.Rule.{Rule}
use Rattle.ground_types.specs.declared.program.Trigger.{Trigger}
use Rattle.ground_types.specs.declared.program.Trigger.TheVariants as trigger
use Rattle.ground_types.specs.declared.program.What.{What}
use Rattle.ground_types.specs.declared.program.What.TheVariants.{Happens, Holds}
use Rattle.ground_types.specs.declared.program.Unit.{Unit}
use Rattle.ground_types.specs.declared.program.UnitKind.{UnitKind}
use Rattle.ground_types.specs.declared.program.UnitKind.TheVariants.{Simple, Static, Derived}
use Rattle.ground_types.specs.declared.program.Program.{Program}
use Rattle.event_store.specs.Standing.{Events, standing}
use Rattle.layer_cache.specs.Told.{event_has, value_covers, fluent_has}
use Rattle.point_rule.specs.Known.{with_events}
use Rattle.simple_fluent.specs.Rows.{pairs}
use Rattle.span_algebra.specs.Normal.{has}
use Rattle.span_algebra.specs.declared.spans.Span.{Span}
use Rattle.span_algebra.specs.declared.rows.UnitRows.{UnitRows}
use Rattle.span_algebra.specs.declared.rows.UnitRows.TheVariants.{Fluent, Event}
use Rattle.delay_revise.specs.Published.{OccurIn, HaveRowsOf}
use Rattle.query_ask.specs.Right.{published}
use Rattle.query_ask.proofs.Reading.{covers_pairs}
use Rattle.query_ask.proofs.TrueAnswers.{range_at, inside_is, covers_inside, place_of}
use Rattle.delay_revise.proofs.Occurs.{occurs_there}

-- where the input events of query k occur
abbrev occurs_in : Program → List Entry → ℕ → ℕ → ℕ → Bool
occurs_in program history k event t =
    ltb (left program.plan k) t && leb t (right program.plan k)
    && is_among (events_of_query program history k) event t

-- everything in the table of query k is as the definitions say
pub table_means : (program : Program) (history : List Entry) (k : ℕ) → IsSound program →
    IsMeaning program (listed (opening_of program history k)) (occurs_in program history k)
    (left program.plan k) (query_table program history k)
table_means program history k sound =
    layers_are_meaning program (listed (opening_of program history k))
    (occurs_in program history k) (left program.plan k) sound.layers

abbrev pub option_covers : Option (List (ℕ × ℕ)) → ℕ → Bool
option_covers None t = false
option_covers (Some row) t = covers row t

pub value_covers_pairs : (row : Option (List Span)) (t : ℕ) → value_covers row t
    ≡ option_covers (option_map pairs row) t
value_covers_pairs None t = refl
value_covers_pairs (Some row) t = covers_pairs row t

-- the row of a value among those of a fluent
value_has : (rows : List (List Span)) (of : ℕ → List (ℕ × ℕ)) (count v t : ℕ) → v < count
    → map pairs rows ≡ map of (range_with_len 0 count) →
    value_covers (slice_get rows v) t ≡ covers (of v) t
value_has rows of count v t lt same =
    value_covers_pairs (slice_get rows v) t
    ∙ ap (λ (o : Option (List (ℕ × ℕ))). option_covers o t)
    (sym (slice_get-map pairs rows v) ∙ ap (λ (l : List (List (ℕ × ℕ))). slice_get l v) same
    ∙ slice_get-map of (range_with_len 0 count) v ∙ ap (option_map of) (range_at count v lt))

-- a fluent's rows have the points of its value's row
fluent_has_row : (table : Table) (number count : ℕ) (kind : UnitKind) (w q v t : ℕ)
    (rows : Option UnitRows) → is_fluent kind ≡ true → v < count →
    option_map published rows ≡ Some (rows_of_kind table number count kind w q)
    → fluent_has rows v t ≡ covers (row (holds table number v) w q) t
fluent_has_row table number count kind w q v t None fluent lt is = cc
fluent_has_row table number count (Simple initially initiate terminate) w q v t
    (Some (Fluent rows)) fluent lt is =
    let same : map pairs rows ≡ map (λ v. row (holds table number v) w q) (range_with_len 0 count)
    = cc in
    value_has rows (λ v. row (holds table number v) w q) count v t lt same
fluent_has_row table number count (Static exprs) w q v t (Some (Fluent rows)) fluent lt is =
    let same : map pairs rows ≡ map (λ v. row (holds table number v) w q) (range_with_len 0 count)
    = cc in
    value_has rows (λ v. row (holds table number v) w q) count v t lt same
fluent_has_row table number count (Derived rules) w q v t (Some (Fluent rows)) fluent lt is = cc
fluent_has_row table number count (Simple initially initiate terminate) w q v t
    (Some (Event points)) fluent lt is = cc
fluent_has_row table number count (Static exprs) w q v t (Some (Event points)) fluent lt is = cc
fluent_has_row table number count (Derived rules) w q v t (Some (Event points)) fluent lt is = cc

-- a derived event's row has its points
event_has_row : (table : Table) (number count : ℕ) (kind : UnitKind) (w q t : ℕ)
    (rows : Option UnitRows) → not (is_fluent kind) ≡ true →
    option_map published rows ≡ Some (rows_of_kind table number count kind w q) → event_has rows t
    ≡ contains (points (table.derived number) w q) t
event_has_row table number count kind w q t None event is = cc
event_has_row table number count (Simple initially initiate terminate) w q t rows event is = cc
event_has_row table number count (Static exprs) w q t rows event is = cc
event_has_row table number count (Derived rules) w q t (Some (Fluent rows)) event is = cc
event_has_row table number count (Derived rules) w q t (Some (Event list)) event is =
    let same : list ≡ points (table.derived number) w q = cc in
    ap (λ (l : List ℕ). contains l t) same

-- at an event point the points are where the test is true
contains_inside : (test : ℕ → Bool) (w q t : ℕ) → w < t → t ≤ q → contains (points test w q) t
    ≡ test t
contains_inside test w q t above within =
    (points_are test w q (omega arith)).each t ∙ inside_is w q t (test t) above within

-- what is published of a unit, by its kind
pub published_of : (program : Program) (history : List Entry) (k number : ℕ) (unit : Unit)
    → slice_get program.units number ≡ Some unit →
    slice_get (publication program history k).rows number
    ≡ Some (rows_of_kind (query_table program history k) number (unit_values program unit)
    unit.kind (left program.plan k) (right program.plan k))
published_of program history k number unit at =
    place_of (λ unit. rows_of_kind (query_table program history k) unit.0
    (value_count (slice_get program.names unit.1.name)) unit.1.kind (left program.plan k)
    (right program.plan k)) 0 number number program.units unit (omega arith) at

-- the input events of a store
abbrev pub occurs_of : Events → ℕ → ℕ → Bool
occurs_of store event t = has (standing store event) t

module _ (program : Program) (history : List Entry) (k : ℕ) (occurs : ℕ → ℕ → Bool)
    (below : List ℕ) (rows : List UnitRows)
    (sound : IsSound program) (events : OccurIn program history k occurs)
    (have : HaveRowsOf program history k below rows) where
  value_by : (number v t : ℕ) (unit : Option Unit) → slice_get program.units number ≡ unit
      → is_fluent_value program unit v ≡ true →
      contains below number ≡ true → left program.plan k < t → t ≤ right program.plan k + 1 →
      fluent_has (slice_get rows number) v t ≡ holds (query_table program history k) number v t
  value_by number v t None at fits done above within = cc
  value_by number v t (Some unit) at fits done above within =
      let table = query_table program history k in
      let w = left program.plan k in
      let q = right program.plan k in
      let few : nat_lt v (unit_values program unit) ≡ true =
      (and_parts (is_fluent unit.kind) (nat_lt v (unit_values program unit)) fits).1 in
      fluent_has_row table number (unit_values program unit) unit.kind w q v t
      (slice_get rows number)
      (and_parts (is_fluent unit.kind) (nat_lt v (unit_values program unit)) fits).0
      (grind (arith, nat_tests))
      (have number unit at done ∙ published_of program history k number unit at)
      ∙ covers_inside (holds table number v) w q t above within

  -- a fluent-value holds at a value point where its row has it
  pub value_found : (number v t : ℕ) → is_fluent_value program (slice_get program.units number) v
      ≡ true → contains below number ≡ true →
      left program.plan k < t → t ≤ right program.plan k + 1 → holds (with_events rows occurs)
      number v t
      ≡ holds (query_table program history k) number v t
  value_found number v t fits done above within =
      value_by number v t (slice_get program.units number) refl fits done above within

  event_by : (number t : ℕ) (unit : Option Unit) → slice_get program.units number ≡ unit
      → is_derived_event unit ≡ true →
      contains below number ≡ true → left program.plan k < t → t ≤ right program.plan k →
      event_has (slice_get rows number) t ≡ (query_table program history k).derived number t
  event_by number t None at fits done above within = cc
  event_by number t (Some unit) at fits done above within =
      let table = query_table program history k in
      let w = left program.plan k in
      let q = right program.plan k in
      event_has_row table number (unit_values program unit) unit.kind w q t (slice_get rows number)
      fits
      (have number unit at done ∙ published_of program history k number unit at)
      ∙ contains_inside (table.derived number) w q t above within

  first_done : (number : ℕ) (rest : List ℕ) → list_all (contains below) (number ∷ rest) ≡ true
      → contains below number ≡ true
  first_done number rest all = (and_parts (contains below number) (list_all (contains below) rest)
      all).0

  -- a trigger happens at an event point where it does so over the rows
  pub trigger_found : (trigger : Trigger) (t : ℕ) → trigger_fits program trigger ≡ true
      → list_all (contains below) (units_of_trigger trigger) ≡ true →
      left program.plan k < t → t ≤ right program.plan k → happens (with_events rows occurs)
      trigger t
      ≡ happens (query_table program history k) trigger t
  trigger_found (trigger.Event event) t fits done above within =
      let few : event < program.events = grind (arith, nat_tests) in
      sym ((table_means program history k sound).input_events event t
      ∙ occurs_there program history k occurs event t events few above within)
  trigger_found (trigger.Derived unit) t fits done above within =
      event_by unit t (slice_get program.units unit) refl fits (first_done unit [] done) above
      within
  trigger_found (trigger.Start unit v) t fits done above within =
      ap₂ (λ (a b : Bool). not a && b)
      (value_found unit v t fits (first_done unit [] done) above (omega arith))
      (value_found unit v (t + 1) fits (first_done unit [] done) (omega arith) (omega arith))
  trigger_found (trigger.End unit v) t fits done above within =
      ap₂ (λ (a b : Bool). a && not b)
      (value_found unit v t fits (first_done unit [] done) above (omega arith))
      (value_found unit v (t + 1) fits (first_done unit [] done) (omega arith) (omega arith))

  what_found : (what : What) (t : ℕ) → what_fits program what ≡ true
      → list_all (contains below) (units_of_what what) ≡ true →
      left program.plan k < t → t ≤ right program.plan k → is_so (with_events rows occurs) what t
      ≡ is_so (query_table program history k) what t
  what_found (Happens trigger) t fits done above within = trigger_found trigger t fits done above
      within
  what_found (Holds unit v) t fits done above within = value_found unit v t fits
      (first_done unit [] done) above (omega arith)

  pub condition_found : (c : Cond) (t : ℕ) → what_fits program c.what ≡ true
      → list_all (contains below) (units_of_what c.what) ≡ true →
      left program.plan k < t → t ≤ right program.plan k
      → condition_holds (with_events rows occurs) c t
      ≡ condition_holds (query_table program history k) c t
  condition_found c t fits done above within = ap (λ (b : Bool). cond c.positive b (not b))
      (what_found c.what t fits done above within)

  conditions_found : (conds : List Cond) (t : ℕ) → list_all (λ cond. what_fits program cond.what)
      conds ≡ true →
      list_all (contains below) (flat_map (λ cond. units_of_what cond.what) conds) ≡ true
      → left program.plan k < t → t ≤ right program.plan k →
      list_all (λ cond. condition_holds (with_events rows occurs) cond t) conds
      ≡ list_all (λ cond. condition_holds (query_table program history k) cond t) conds
  conditions_found [] t fit done above within = refl
  conditions_found (c ∷ rest) t fit done above within =
      let more : List ℕ = flat_map (λ cond. units_of_what cond.what) rest in
      let all : (list_all (contains below) (units_of_what c.what) && list_all (contains below)
      more) ≡ true =
      sym (list_all-append (contains below) (units_of_what c.what) more) ∙ done in
      ap₂ (λ (a b : Bool). a && b)
      (condition_found c t (and_parts (what_fits program c.what)
      (list_all (λ cond. what_fits program cond.what) rest) fit).0
      (and_parts (list_all (contains below) (units_of_what c.what)) (list_all (contains below)
      more) all).0 above within)
      (conditions_found rest t (and_parts (what_fits program c.what)
      (list_all (λ cond. what_fits program cond.what) rest) fit).1
      (and_parts (list_all (contains below) (units_of_what c.what)) (list_all (contains below)
      more) all).1 above within)

  -- a body is true at an event point where it is so over the rows
  pub body_found : (values : ℕ) (rule : Rule) (t : ℕ) → rule_fits program values rule ≡ true
      → list_all (contains below) (units_of_rule rule) ≡ true →
      left program.plan k < t → t ≤ right program.plan k → body_holds (with_events rows occurs)
      rule t
      ≡ body_holds (query_table program history k) rule t
  body_found values rule t fits done above within =
      let triggers : Bool = trigger_fits program rule.trigger in
      let others : Bool = list_all (λ cond. what_fits program cond.what) rule.conds in
      let more : List ℕ = flat_map (λ cond. units_of_what cond.what) rule.conds in
      let first : (nat_lt rule.value values && triggers) ≡ true =
      (and_parts (nat_lt rule.value values && triggers) others fits).0 in
      let all : (list_all (contains below) (units_of_trigger rule.trigger)
      && list_all (contains below) more) ≡ true =
      sym (list_all-append (contains below) (units_of_trigger rule.trigger) more) ∙ done in
      ap₂ (λ (a b : Bool). a && b)
      (trigger_found rule.trigger t (and_parts (nat_lt rule.value values) triggers first).1
      (and_parts (list_all (contains below) (units_of_trigger rule.trigger))
      (list_all (contains below) more) all).0 above within)
      (conditions_found rule.conds t (and_parts (nat_lt rule.value values && triggers) others
      fits).1
      (and_parts (list_all (contains below) (units_of_trigger rule.trigger))
      (list_all (contains below) more) all).1 above within)
