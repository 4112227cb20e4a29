-- What a reviser keeps goes on through its calls.
use Rattle.std.proofs.Common.{◌≡◌, ℕ, zero, suc, ◌+◌, ◌-◌, ◌<◌, ◌≤◌, Bool, true}
use Rattle.std.proofs.Common.{false, List, [], ◌∷◌, ◌++◌, map, length, take, slice_get, slice_set}
use Rattle.std.proofs.Common.{Option, Some, None, refl, sym, ◌∙◌, ap, ap₂, subst, arith}
use Rattle.std.specs.Prelude.{option_map, replicate, is_some, ◌&&◌, ◌^◌}
use Rattle.std.specs.List.{list_all, range_with_len}
use Rattle.std.proofs.lemmas.List.{length-map}
use Rattle.std.proofs.lemmas.List.FromFn.{length-range_with_len}
use Rattle.std.proofs.lemmas.Bool.{true≢false}
use Rattle.std.proofs.lemmas.List.{take-append-le, length-append}
use Rattle.std.proofs.Common.{IfSome}
use Rattle.std.proofs.Math.Nat.{suc-mul}
use Rattle.std.proofs.lemmas.List.Folds.{list_all-append}
use Rattle.std.proofs.lemmas.Option.{slice_get-map}
use Rattle.ground_types.specs.History.{stands, before_seal, seals}
use Rattle.ground_types.specs.Publication.{Published, PublishedRows, publication, opening_of}
use Rattle.ground_types.specs.Publication.{rows_of_kind, query_table}
use Rattle.ground_types.specs.Rows.{row}
use Rattle.ground_types.specs.Sound.{IsSound, unit_values}
use Rattle.ground_types.specs.Truth.{Table, holds}
use Rattle.ground_types.specs.declared.program.UnitKind.{UnitKind}
use Rattle.ground_types.specs.declared.program.UnitKind.TheVariants.{Simple, Static, Derived}
use Rattle.ground_types.specs.Touched.{evaluations_of_unit}
use Rattle.ground_types.specs.Windows.{left, right}
use Rattle.ground_types.specs.declared.entries.Entry.{Entry}
use Rattle.ground_types.specs.declared.plan.Plan.{Plan}
use Rattle.ground_types.specs.declared.program.Program.{Program}
use Rattle.ground_types.specs.declared.program.Unit.{Unit}
use Rattle.event_store.specs.Standing.{Events, standing}
use Rattle.event_store.specs.Standing as Standing
use Rattle.event_store.specs.declared.told.Told.{Told}
use Rattle.layer_cache.specs.Cached.{all_empty, empty_rows, shape_by, unit_shape}
use Rattle.layer_cache.specs.Rows.{Cached}
use Rattle.layer_cache.specs.Shapes.{shape, shapes, emptied}
use Rattle.layer_cache.proofs.Shaping.{shapes_put, shapes_cleared, size_by_shapes, shapes_of_empty}
use Rattle.query_ask.specs.Right.{published}
use Rattle.span_algebra.specs.Normal.{has}
use Rattle.simple_fluent.specs.Rows.{pairs}
use Rattle.span_algebra.specs.declared.spans.Span.{Span}
use Rattle.span_algebra.specs.declared.rows.UnitRows.{UnitRows}
use Rattle.span_algebra.specs.declared.rows.UnitRows.TheVariants.{Fluent, Event}
use Rattle.delay_revise.specs.Going.{AreTold, IsAfter, AreKept, AreEnded, IsOpen}
use Rattle.delay_revise.specs.Going.{IsSmall, Parts, sealed_until, IsRevising, is_counted}
use Rattle.delay_revise.specs.Layers.{put_made}
use Rattle.delay_revise.specs.Revising.{Revising, MayTake, IsWorkOf, number_of, is_of}
use Rattle.delay_revise.specs.Revising.{none_kept}
use Rattle.delay_revise.specs.Revising.{rows_or_empty, open_units, layer_or_none}
use Rattle.delay_revise.proofs.Chunks.{chunk_opens, chunk_seals, open_before}
use Rattle.delay_revise.proofs.LookUp.{published_of}
use Rattle.delay_revise.proofs.KeptUnits.{kept_more, ended_more, ended_next, none_counted}
use Rattle.delay_revise.proofs.Putting.{put_here, put_apart}
use Rattle.delay_revise.proofs.KeptUnits.{none_there, none_ended, emptied_all, all_rows_kept}
use Rattle.delay_revise.proofs.Staying.{before_stays, publication_stays}
use Rattle.delay_revise.proofs.Telling.{told_first, told_same}

take_whole : (xs : List Entry) → take (length xs) xs ≡ xs
take_whole [] = refl
take_whole (x ∷ xs) = ap (λ (l : List Entry). x ∷ l) (take_whole xs)

-- ---- a chunk is taken

seals_when : (b : Bool) (s n : ℕ) → s ≡ sealed_until b n → b ≡ false → s ≡ n
seals_when true s n is none = absurd (true≢false none)
seals_when false s n is none = is

-- the query before stays what it was
after_more : (program : Program) (history more : List Entry) (k : ℕ) (store : Events)
    (before : List UnitRows) → seals history ≡ k → IsAfter program history k store before
    → IsAfter program (history ++ more) k store before
after_more program history more k store before count after = record {
  events = λ j is event t few low high.
      after.events j is event t few low high
      ∙ ap (λ (h : List Entry). stands h event t)
      (sym (before_stays history more j (omega (arith, count, is))));
  rows = λ j is.
      after.rows j is
      ∙ ap (λ (q : Published). q.rows) (sym (publication_stays program history more j
      (omega (arith, count, is))));
}

-- nothing is kept yet, of whatever history
kept_none : (program : Program) (one two : List Entry) (k : ℕ) (rows : List UnitRows)
    (counts : List (Option ℕ)) → counts ≡ replicate (length program.units) None
    → AreKept program one k rows counts → AreKept program two k rows counts
kept_none program one two k rows counts none kept = record {
  size = kept.size;
  each = λ unit count at. absurd (none_there (length program.units) unit count
      (ap (λ (l : List (Option ℕ)). slice_get l unit) (sym none) ∙ at));
  others = kept.others;
}

taken_more : (r : Revising) (p : Parts) (chunk : List Entry) (room : ℕ) → IsRevising r p
    → MayTake r chunk → r.cap ≤ room
    → IsRevising (record r { taken = r.taken ++ chunk; has_chunk = true })
    (record p { room = room })
taken_more r p chunk room is may roomy =
    let idle = is.idle may.none_open in
    let count : seals r.taken ≡ p.number = seals_when r.has_chunk (seals r.taken) p.number
    is.seals_are may.none_open in
    record {
      sound = is.sound;
      small = is.small;
      legal = may.legal;
      few = omega (arith, length-append r.taken chunk, may.room);
      cap = is.cap;
      roomy = roomy;
      seals_are = chunk_seals r chunk may ∙ ap suc count;
      events = list_all-append (is_of r.program.events) r.taken chunk
          ∙ ap₂ (λ (a b : Bool). a && b) is.events may.events;
      placed = omega (arith, length-append r.taken chunk, is.placed);
      told = subst (λ (h : List Entry). AreTold r.program h p.number p.store p.ahead)
          (sym (take-append-le p.placed r.taken chunk is.placed)) is.told;
      after = after_more r.program r.taken chunk p.number p.store p.cached.before count is.after;
      shapes_now = is.shapes_now;
      shapes_before = is.shapes_before;
      kept = kept_none r.program r.taken (r.taken ++ chunk) p.number p.cached.rows p.counts idle.2
          is.kept;
      ended = is.ended;
      layer_most = is.layer_most;
      idle = λ opened. absurd (true≢false opened);
      opened = λ opened. subst (IsOpen (r.taken ++ chunk)) count (chunk_opens r chunk may);
      brought = λ applied. absurd (true≢false (sym applied ∙ idle.1));
      applied = λ applied. absurd (true≢false (sym applied ∙ idle.1));
    }

pub taken_on : (r : Revising) (p : Parts) (chunk later : List Entry) (room : ℕ) → IsRevising r p
    → MayTake r chunk → r.cap ≤ room → later ≡ r.taken ++ chunk
    → IsRevising (record r { taken = later; has_chunk = true }) (record p { room = room })
taken_on r p chunk later room is may roomy same =
    subst (λ (l : List Entry). IsRevising (record r { taken = l; has_chunk = true })
    (record p { room = room })) (sym same) (taken_more r p chunk room is may roomy)

-- ---- a unit is kept, a layer ended

number_there : (b : Bool) (s n : ℕ) → s ≡ sealed_until b n → b ≡ true → s - 1 ≡ n
number_there true s n is opened = omega (arith, is)
number_there false s n is opened = absurd (true≢false (sym opened))

pub open_number : (r : Revising) (p : Parts) → IsRevising r p → r.has_chunk ≡ true → number_of r
    ≡ p.number
open_number r p is opened = number_there r.has_chunk (seals r.taken) p.number is.seals_are
    opened

-- an item is there at each place of a list
there_is : {X : Type 0} (l : List X) (i : ℕ) → i < length l → slice_get l i ≡ None → ⊥
there_is [] i lt none = omega (arith, lt)
there_is (x ∷ xs) zero lt none = cc
there_is (x ∷ xs) (suc i) lt none = there_is xs i (omega (arith, lt)) none

-- the rows of a unit are there once they were made
map_twice : (program : Program) (o : Option Unit)
    → option_map published (option_map (empty_rows program) o)
    ≡ option_map (λ u. published (empty_rows program u)) o
map_twice program None = refl
map_twice program (Some u) = refl

rows_put : (program : Program) (rows : UnitRows) (o : Option Unit) (row : Option PublishedRows)
    (unit : ℕ) → unit < length program.units → slice_get program.units unit ≡ o
    → option_map (λ u. published rows) o ≡ row → Some (published rows) ≡ row
rows_put program rows None row unit within at is = absurd (there_is program.units unit within at)
rows_put program rows (Some u) row unit within at is = is

made_there : (program : Program) (history : List Entry) (k unit : ℕ) (cached : Cached)
    (counts : List (Option ℕ)) (made : Option UnitRows) → AreKept program history k cached.rows
    counts → unit < length program.units → length cached.rows ≡ length program.units →
    option_map (λ u. published (rows_or_empty program made u)) (slice_get program.units unit)
    ≡ slice_get (publication program history k).rows unit →
    (slot : Option (Option ℕ)) → slice_get counts unit ≡ slot →
    option_map published (slice_get (put_made cached unit made).rows unit)
    ≡ slice_get (publication program history k).rows unit
made_there program history k unit cached counts None kept within size is None at =
    absurd (there_is counts unit (omega (arith, kept.size, within)) at)
made_there program history k unit cached counts None kept within size is (Some None) at =
    ap (option_map published) (kept.others unit at ∙ slice_get-map (empty_rows program)
    program.units unit) ∙ map_twice program (slice_get program.units unit) ∙ is
made_there program history k unit cached counts None kept within size is (Some (Some count)) at =
    (kept.each unit count at).0
made_there program history k unit cached counts (Some rows) kept within size is slot at =
    ap (option_map published) (put_here cached.rows unit rows (omega (arith, size, within)))
    ∙ rows_put program rows (slice_get program.units unit) _ unit within refl is

made_apart : (cached : Cached) (unit other : ℕ) (made : Option UnitRows) → (unit ≡ other → ⊥)
    → slice_get (put_made cached unit made).rows other ≡ slice_get cached.rows other
made_apart cached unit other None apart = refl
made_apart cached unit other (Some rows) apart = put_apart cached.rows unit other rows apart

made_shapes : (cached : Cached) (unit : ℕ) (made : Option UnitRows)
    → IfSome made (λ rows. slice_get (shapes cached.rows) unit ≡ Some (shape rows))
    → shapes (put_made cached unit made).rows ≡ shapes cached.rows
made_shapes cached unit None fits = refl
made_shapes cached unit (Some rows) fits = shapes_put cached.rows unit rows fits

made_before : (cached : Cached) (unit : ℕ) (made : Option UnitRows)
    → (put_made cached unit made).before ≡ cached.before
made_before cached unit None = refl
made_before cached unit (Some rows) = refl

fluent_length : (rows : List (List Span)) (of : ℕ → List (ℕ × ℕ)) (count : ℕ)
    → map pairs rows ≡ map of (range_with_len 0 count) → length rows ≡ count
fluent_length rows of count same =
    sym (length-map rows pairs) ∙ ap (λ (l : List (List (ℕ × ℕ))). length l) same
    ∙ length-map (range_with_len 0 count) of ∙ length-range_with_len 0 count

-- rows that are published of a unit have its shape
shape_published : (table : Table) (number count w q : ℕ) (kind : UnitKind) (rows : UnitRows)
    → published rows ≡ rows_of_kind table number count kind w q → shape rows ≡ shape_by kind count
shape_published table number count w q (Simple initially initiate terminate) (Fluent rows) is =
    let all : map pairs rows ≡ map (λ v. row (holds table number v) w q) (range_with_len 0 count)
    = cc in
    ap Some (fluent_length rows (λ v. row (holds table number v) w q) count all)
shape_published table number count w q (Simple initially initiate terminate) (Event points) is = cc
shape_published table number count w q (Static exprs) (Fluent rows) is =
    let all : map pairs rows ≡ map (λ v. row (holds table number v) w q) (range_with_len 0 count)
    = cc in
    ap Some (fluent_length rows (λ v. row (holds table number v) w q) count all)
shape_published table number count w q (Static exprs) (Event points) is = cc
shape_published table number count w q (Derived rules) (Fluent rows) is = cc
shape_published table number count w q (Derived rules) (Event points) is = refl

shape_by_unit : (program : Program) (history : List Entry) (k unit : ℕ) (rows : UnitRows)
    (o : Option Unit) → unit < length program.units → slice_get program.units unit ≡ o
    → option_map (λ u. published rows) o ≡ slice_get (publication program history k).rows unit
    → Some (shape rows) ≡ option_map (unit_shape program) o
shape_by_unit program history k unit rows None within at is =
    absurd (there_is program.units unit within at)
shape_by_unit program history k unit rows (Some u) within at is =
    ap Some (shape_published (query_table program history k) unit (unit_values program u)
    (left program.plan k) (right program.plan k) u.kind rows
    (let both : Some (published rows) ≡ Some (rows_of_kind (query_table program history k) unit
    (unit_values program u) u.kind (left program.plan k) (right program.plan k)) =
    is ∙ published_of program history k unit u at in cc))

-- what was made of a unit has the shape of its rows
pub made_fits : (r : Revising) (p : Parts) (unit count : ℕ) (made : Option UnitRows)
    → IsRevising r p → unit < length r.program.units
    → IsWorkOf r unit (record { rows = made; evaluations = count })
    → IfSome made (λ rows. slice_get (shapes p.cached.rows) unit ≡ Some (shape rows))
made_fits r p unit count None is within work = tt
made_fits r p unit count (Some rows) is within work =
    ap (λ (l : List (Option ℕ)). slice_get l unit) is.shapes_now
    ∙ slice_get-map (unit_shape r.program) r.program.units unit
    ∙ sym (shape_by_unit r.program r.taken (number_of r) unit rows
    (slice_get r.program.units unit) within refl work.rows)

-- nothing is said of which units contracts see as kept
kept_other : (r : Revising) (p : Parts) (kept : List Bool) → IsRevising r p
    → IsRevising (record r { kept = kept }) p
kept_other r p kept is = record {
  sound = is.sound;
  small = is.small;
  legal = is.legal;
  few = is.few;
  cap = is.cap;
  roomy = is.roomy;
  seals_are = is.seals_are;
  events = is.events;
  placed = is.placed;
  told = is.told;
  after = is.after;
  shapes_now = is.shapes_now;
  shapes_before = is.shapes_before;
  kept = is.kept;
  ended = is.ended;
  layer_most = is.layer_most;
  idle = is.idle;
  opened = is.opened;
  brought = is.brought;
  applied = is.applied;
}

kept_one : (r : Revising) (p : Parts) (unit count : ℕ) (made : Option UnitRows)
    → IsRevising r p → r.has_chunk ≡ true → unit < length r.program.units
    → IsWorkOf r unit (record { rows = made; evaluations = count })
    → IfSome made (λ rows. slice_get (shapes p.cached.rows) unit ≡ Some (shape rows)) →
    IsRevising r (record p {
      cached = put_made p.cached unit made;
      counts = slice_set p.counts unit (Some count);
    })
kept_one r p unit count made is opened within work fits =
    let number = open_number r p is opened in
    record {
      sound = is.sound;
      small = is.small;
      legal = is.legal;
      few = is.few;
      cap = is.cap;
      roomy = is.roomy;
      seals_are = is.seals_are;
      events = is.events;
      placed = is.placed;
      told = is.told;
      after = record {
        events = is.after.events;
        rows = λ j at. ap (map published) (made_before p.cached unit made) ∙ is.after.rows j at;
      };
      shapes_now = made_shapes p.cached unit made fits ∙ is.shapes_now;
      shapes_before = ap shapes (made_before p.cached unit made) ∙ is.shapes_before;
      kept = kept_more r.program r.taken p.number unit count p.cached.rows
          (put_made p.cached unit made).rows p.counts is.kept within
          (made_there r.program r.taken p.number unit p.cached p.counts made is.kept within
          (size_by_shapes r.program p.cached.rows is.shapes_now)
          (work.rows ∙ ap (λ (k : ℕ). slice_get (publication r.program r.taken k).rows unit) number)
          (slice_get p.counts unit) refl)
          (work.evaluations ∙ ap (λ (k : ℕ). evaluations_of_unit r.program r.taken k unit) number)
          (λ other apart. made_apart p.cached unit other made apart);
      ended = ended_more r.program r.layer unit count p.counts is.ended;
      layer_most = is.layer_most;
      idle = λ none. absurd (true≢false (sym opened ∙ none));
      opened = is.opened;
      brought = is.brought;
      applied = is.applied;
    }

pub kept_on : (r : Revising) (p : Parts) (unit count : ℕ) (made : Option UnitRows)
    (cached : Cached) (counts : List (Option ℕ)) (kept : List Bool)
    → IsRevising r p → r.has_chunk ≡ true → unit < length r.program.units
    → IsWorkOf r unit (record { rows = made; evaluations = count })
    → IfSome made (λ rows. slice_get (shapes p.cached.rows) unit ≡ Some (shape rows))
    → cached ≡ put_made p.cached unit made → counts ≡ slice_set p.counts unit (Some count)
    → IsRevising (record r { kept = kept }) (record p { cached = cached; counts = counts })
kept_on r p unit count made cached counts kept is opened within work fits put set =
    subst (λ (c : Cached). IsRevising (record r { kept = kept }) (record p {
      cached = c;
      counts = counts;
    })) (sym put)
    (subst (λ (l : List (Option ℕ)). IsRevising (record r { kept = kept }) (record p {
      cached = put_made p.cached unit made;
      counts = l;
    })) (sym set) (kept_other r _ kept (kept_one r p unit count made is opened within work fits)))

-- the counts of the units of the open layer are there where they are kept
pub layer_ended : (r : Revising) (p : Parts) (units : List ℕ) → IsRevising r p
    → r.layer < length r.program.layers → slice_get r.program.layers r.layer ≡ Some units
    → r.has_chunk ≡ true → list_all (is_counted p.counts) units ≡ true
    → IsRevising (record r { layer = r.layer + 1 }) p
layer_ended r p units is within at opened all = record {
  sound = is.sound;
  small = is.small;
  legal = is.legal;
  few = is.few;
  cap = is.cap;
  roomy = is.roomy;
  seals_are = is.seals_are;
  events = is.events;
  placed = is.placed;
  told = is.told;
  after = is.after;
  shapes_now = is.shapes_now;
  shapes_before = is.shapes_before;
  kept = is.kept;
  ended = ended_next r.program r.layer units p.counts at is.ended all;
  layer_most = omega (arith, within);
  idle = is.idle;
  opened = is.opened;
  brought = is.brought;
  applied = is.applied;
}

turned_by : (r : Revising) (p : Parts) (o : Option (List ℕ)) → IsRevising r p
    → r.has_chunk ≡ true → r.layer < length r.program.layers
    → slice_get r.program.layers r.layer ≡ o
    → list_all (is_counted p.counts) (layer_or_none o) ≡ true
    → IsRevising (record r { layer = r.layer + 1 }) p
turned_by r p None is opened within at all = absurd (there_is r.program.layers r.layer within at)
turned_by r p (Some units) is opened within at all = layer_ended r p units is within at opened all

pub turned_on : (r : Revising) (p : Parts) → IsRevising r p → r.has_chunk ≡ true
    → r.layer < length r.program.layers
    → list_all (is_counted p.counts) (open_units r) ≡ true
    → IsRevising (record r { layer = r.layer + 1 }) p
turned_on r p is opened within all =
    turned_by r p (slice_get r.program.layers r.layer) is opened within refl all

-- ---- the chunk is applied

pub placed_on : (r : Revising) (p : Parts) (placed : ℕ) (ahead : List (List Told))
    → IsRevising r p → r.has_chunk ≡ true → r.applied ≡ false → placed ≤ length r.taken
    → AreTold r.program (take placed r.taken) p.number p.store ahead
    → IsRevising r (record p { placed = placed; ahead = ahead })
placed_on r p placed ahead is opened unapplied most told = record {
  sound = is.sound;
  small = is.small;
  legal = is.legal;
  few = is.few;
  cap = is.cap;
  roomy = is.roomy;
  seals_are = is.seals_are;
  events = is.events;
  placed = most;
  told = told;
  after = is.after;
  shapes_now = is.shapes_now;
  shapes_before = is.shapes_before;
  kept = is.kept;
  ended = is.ended;
  layer_most = is.layer_most;
  idle = λ none. absurd (true≢false (sym opened ∙ none));
  opened = is.opened;
  brought = λ applied. absurd (true≢false (sym applied ∙ unapplied));
  applied = λ applied. absurd (true≢false (sym applied ∙ unapplied));
}

pub placed_by : (r : Revising) (p : Parts) (program : Program) (history : List Entry) (placed : ℕ)
    (ahead : List (List Told)) → IsRevising r p → r.has_chunk ≡ true → r.applied ≡ false
    → program ≡ r.program → history ≡ r.taken → placed ≤ length history
    → ((store : Events) → AreTold program (take p.placed history) p.number store p.ahead
    → AreTold program (take placed history) p.number store ahead)
    → IsRevising r (record p { placed = placed; ahead = ahead })
placed_by r p program history placed ahead is opened unapplied this same most told =
    placed_on r p placed ahead is opened unapplied
    (subst (λ (h : List Entry). placed ≤ length h) same most)
    (subst (λ (h : List Entry). AreTold r.program (take placed h) p.number p.store ahead) same
    (subst (λ (of : Program). AreTold of (take placed history) p.number p.store ahead) this
    (told p.store
    (subst (λ (of : Program). AreTold of (take p.placed history) p.number p.store p.ahead)
    (sym this)
    (subst (λ (h : List Entry). AreTold r.program (take p.placed h) p.number p.store p.ahead)
    (sym same) is.told)))))

pub unbrought : (r : Revising) (p : Parts) (store : Events) (ahead : List (List Told))
    → IsRevising r p → store ≡ p.store → ahead ≡ p.ahead
    → IsRevising r (record p { store = store; ahead = ahead })
unbrought r p store ahead is same others =
    subst (λ (s : Events). IsRevising r (record p { store = s; ahead = ahead })) (sym same)
    (subst (λ (l : List (List Told)). IsRevising r (record p { ahead = l })) (sym others) is)

-- what is known once the words of a query are brought to the store
pub record IsBrought (program : Program) (k : ℕ) (old new : Events) (ahead later : List (List
    Told)) : Type 0 where
  pub told : (entries : List Entry) → AreTold program entries k old ahead → AreTold program entries
      k new later
  pub next : (entries : List Entry) → AreTold program entries k old ahead → AreTold program entries
      (suc k) new later
  pub events : (entries : List Entry) → AreTold program entries k old ahead → (event t : ℕ)
      → left program.plan k < t → t ≤ right program.plan k
      → has (standing new event) t ≡ stands entries event t
  pub stood : (event t : ℕ) → left program.plan k < t → Standing.stood new event t
      ≡ Standing.stood old event t

pub brought_by : (program of : Program) (k : ℕ) (old new : Events)
    (ahead later : List (List Told)) → program ≡ of → IsBrought program k old new ahead later
    → IsBrought of k old new ahead later
brought_by program of k old new ahead later this is =
    subst (λ (p : Program). IsBrought p k old new ahead later) this is

pub opens_by : (program of : Program) (k : ℕ) (before : List UnitRows) (opening : List (Option ℕ))
    → program ≡ of
    → ((history : List Entry) → ((j : ℕ) → k ≡ suc j
    → map published before ≡ (publication program history j).rows)
    → opening ≡ opening_of program history k)
    → (history : List Entry) → ((j : ℕ) → k ≡ suc j
    → map published before ≡ (publication of history j).rows)
    → opening ≡ opening_of of history k
opens_by program of k before opening this opens =
    subst (λ (p : Program). (history : List Entry) → ((j : ℕ) → k ≡ suc j
    → map published before ≡ (publication p history j).rows)
    → opening ≡ opening_of p history k) this opens

next_left : (plan : Plan) (j : ℕ) → left plan (suc j) ≡ left plan j + plan.step
next_left plan j = omega (arith, suc-mul j plan.step)

pub applied_now : (r : Revising) (p : Parts) (store : Events) (ahead : List (List Told))
    (opening : List (Option ℕ)) → IsRevising r p → r.has_chunk ≡ true
    → p.placed ≡ length r.taken → IsBrought r.program p.number p.store store p.ahead ahead
    → ((history : List Entry) → ((j : ℕ) → p.number ≡ suc j
    → map published p.cached.before ≡ (publication r.program history j).rows)
    → opening ≡ opening_of r.program history p.number)
    → IsRevising (record r { applied = true }) (record p {
      store = store;
      ahead = ahead;
      opening = opening;
    })
applied_now r p store ahead opening is opened all brought opens =
    let told : AreTold r.program r.taken p.number p.store p.ahead =
    subst (λ (h : List Entry). AreTold r.program h p.number p.store p.ahead)
    (ap (λ (n : ℕ). take n r.taken) all ∙ take_whole r.taken) is.told in
    record {
      sound = is.sound;
      small = is.small;
      legal = is.legal;
      few = is.few;
      cap = is.cap;
      roomy = is.roomy;
      seals_are = is.seals_are;
      events = is.events;
      placed = is.placed;
      told = brought.told (take p.placed r.taken) is.told;
      after = record {
        events = λ j at event t few low high.
            brought.stood event t (subst (λ (k : ℕ). left r.program.plan k < t) (sym at) low)
            ∙ is.after.events j at event t few low high;
        rows = is.after.rows;
      };
      shapes_now = is.shapes_now;
      shapes_before = is.shapes_before;
      kept = is.kept;
      ended = is.ended;
      layer_most = is.layer_most;
      idle = λ none. absurd (true≢false (sym opened ∙ none));
      opened = is.opened;
      brought = λ done. all;
      applied = λ done. record {
        events = λ event t few low high.
            brought.events r.taken told event t low high
            ∙ sym (open_before r.taken p.number (is.opened opened) event t);
        next = brought.next r.taken told;
        opening_is = opens r.taken is.after.rows;
      };
    }

-- ---- the chunk is closed, or begun again

closed_now : (r : Revising) (p : Parts) (cached : Cached) (store : Events)
    (counts : List (Option ℕ)) (kept : List Bool) → IsRevising r p → r.has_chunk ≡ true
    → r.applied ≡ true → map published p.cached.rows ≡ (publication r.program r.taken p.number).rows
    → cached ≡ record { rows = map emptied p.cached.before; before = p.cached.rows }
    → ((event : ℕ) → standing store event ≡ standing p.store event)
    → ((event t : ℕ) → Standing.stood store event t ≡ has (standing p.store event) t)
    → counts ≡ replicate (length r.program.units) None →
    IsRevising (record r { has_chunk = false; applied = false; layer = 0; kept = kept }) (record p {
      number = suc p.number;
      cached = cached;
      store = store;
      counts = counts;
    })
closed_now r p cached store counts kept is opened done rows turned same stood none =
    let applied = is.applied done in
    let all = is.brought done in
    record {
      sound = is.sound;
      small = is.small;
      legal = is.legal;
      few = is.few;
      cap = is.cap;
      roomy = is.roomy;
      seals_are = is.seals_are ∙ ap (λ (b : Bool). sealed_until b p.number) opened;
      events = is.events;
      placed = is.placed;
      told = subst (λ (h : List Entry). AreTold r.program h (suc p.number) store p.ahead)
          (sym (ap (λ (n : ℕ). take n r.taken) all ∙ take_whole r.taken))
          (told_same r.program r.taken (suc p.number) p.store store p.ahead same applied.next);
      after = record {
        events = λ j at event t few low high.
            let this : p.number ≡ j = omega (arith, at) in
            subst (λ (k : ℕ). t ≤ right r.program.plan k → left r.program.plan (suc k) < t →
            Standing.stood store event t ≡ stands (before_seal r.taken k) event t) this
            (λ high low. stood event t ∙ applied.events event t few
            (omega (arith, next_left r.program.plan p.number, low)) high) high low;
        rows = λ j at.
            let this : p.number ≡ j = omega (arith, at) in
            ap (λ (c : Cached). map published c.before) turned ∙ rows
            ∙ ap (λ (k : ℕ). (publication r.program r.taken k).rows) this;
      };
      shapes_now = ap (λ (c : Cached). shapes c.rows) turned ∙ shapes_cleared p.cached.before
          ∙ is.shapes_before;
      shapes_before = ap (λ (c : Cached). shapes c.before) turned ∙ is.shapes_now;
      kept = subst (λ (l : List (Option ℕ)). AreKept r.program r.taken (suc p.number) cached.rows l)
          (sym none)
          (subst (λ (c : Cached). AreKept r.program r.taken (suc p.number) c.rows
          (replicate (length r.program.units) None)) (sym turned)
          (none_counted r.program r.taken (suc p.number) p.cached.before is.shapes_before));
      ended = none_ended r.program counts;
      layer_most = omega arith;
      idle = λ closed. (all, refl, none);
      opened = λ opened. absurd (true≢false (sym opened));
      brought = λ applied. absurd (true≢false (sym applied));
      applied = λ applied. absurd (true≢false (sym applied));
    }

pub closed_on : (r : Revising) (p : Parts) (next : ℕ) (cached : Cached) (store : Events)
    (counts : List (Option ℕ)) (kept : List Bool) → IsRevising r p → r.has_chunk ≡ true
    → r.applied ≡ true → r.layer ≡ length r.program.layers → next ≡ suc p.number
    → cached ≡ record { rows = map emptied p.cached.before; before = p.cached.rows }
    → ((event : ℕ) → standing store event ≡ standing p.store event)
    → ((event t : ℕ) → Standing.stood store event t ≡ has (standing p.store event) t)
    → counts ≡ replicate (length r.program.units) None →
    IsRevising (record r { has_chunk = false; applied = false; layer = 0; kept = kept }) (record p {
      number = next;
      cached = cached;
      store = store;
      counts = counts;
    })
closed_on r p next cached store counts kept is opened done layers this turned same stood none =
    subst (λ (k : ℕ). IsRevising (record r {
      has_chunk = false;
      applied = false;
      layer = 0;
      kept = kept;
    }) (record p { number = k; cached = cached; store = store; counts = counts })) (sym this)
    (closed_now r p cached store counts kept is opened done
    (all_rows_kept r.program r.taken p.number p.cached.rows p.counts is.sound
    (size_by_shapes r.program p.cached.rows is.shapes_now) is.kept
    (subst (λ (n : ℕ). AreEnded r.program n p.counts) layers is.ended)) turned same stood none)

pub begun_again : (r : Revising) (p : Parts) (cached : Cached) (counts : List (Option ℕ))
    (kept : List Bool) → IsRevising r p
    → cached ≡ record { rows = map emptied p.cached.rows; before = p.cached.before }
    → counts ≡ replicate (length r.program.units) None →
    IsRevising (record r { layer = 0; kept = kept }) (record p {
      cached = cached;
      counts = counts;
    })
begun_again r p cached counts kept is cleared none = record {
  sound = is.sound;
  small = is.small;
  legal = is.legal;
  few = is.few;
  cap = is.cap;
  roomy = is.roomy;
  seals_are = is.seals_are;
  events = is.events;
  placed = is.placed;
  told = is.told;
  after = record {
    events = is.after.events;
    rows = λ j at. ap (λ (c : Cached). map published c.before) cleared ∙ is.after.rows j at;
  };
  shapes_now = ap (λ (c : Cached). shapes c.rows) cleared ∙ shapes_cleared p.cached.rows
      ∙ is.shapes_now;
  shapes_before = ap (λ (c : Cached). shapes c.before) cleared ∙ is.shapes_before;
  kept = subst (λ (l : List (Option ℕ)). AreKept r.program r.taken p.number cached.rows l)
      (sym none)
      (subst (λ (c : Cached). AreKept r.program r.taken p.number c.rows
      (replicate (length r.program.units) None)) (sym cleared)
      (none_counted r.program r.taken p.number p.cached.rows is.shapes_now));
  ended = none_ended r.program counts;
  layer_most = omega arith;
  idle = λ closed. ((is.idle closed).0, (is.idle closed).1, none);
  opened = is.opened;
  brought = is.brought;
  applied = is.applied;
}

-- ---- the beginning

none_seen : (n : ℕ) → map (is_some {T = ℕ}) (replicate n None) ≡ replicate n false
none_seen zero = refl
none_seen (suc n) = ap (λ (l : List Bool). false ∷ l) (none_seen n)

pub none_kept_is : (program : Program) (counts : List (Option ℕ))
    → counts ≡ replicate (length program.units) None
    → map (is_some {T = ℕ}) counts ≡ none_kept program
none_kept_is program counts none =
    ap (map (is_some {T = ℕ})) none ∙ none_seen (length program.units)

pub kept_set : (counts : List (Option ℕ)) (unit count : ℕ)
    → map is_some (slice_set counts unit (Some count)) ≡ slice_set (map is_some counts) unit true
kept_set [] unit count = refl
kept_set (x ∷ xs) zero count = refl
kept_set (x ∷ xs) (suc unit) count =
    ap (λ (l : List Bool). is_some x ∷ l) (kept_set xs unit count)

pub begins : (program : Program) (cap : ℕ) (kept : List Bool) (p : Parts) → IsSound program
    → IsSmall program → cap < 2 ^ 32 → cap ≤ p.room → p.number ≡ 0 → p.placed ≡ 0
    → p.cached ≡ record { rows = all_empty program; before = all_empty program }
    → ((event : ℕ) → standing p.store event ≡ []) → p.ahead ≡ replicate program.plan.queries []
    → p.counts ≡ replicate (length program.units) None →
    IsRevising (record {
      program = program;
      cap = cap;
      taken = [];
      has_chunk = false;
      applied = false;
      layer = 0;
      kept = kept;
    }) p
begins program cap kept p sound small few roomy number placed cached nothing ahead none = record {
  sound = sound;
  small = small;
  legal = record { entries = tt; few_seals = omega arith };
  few = omega arith;
  cap = few;
  roomy = roomy;
  seals_are = sym number;
  events = refl;
  placed = omega (arith, placed);
  told = subst (λ (h : List Entry). AreTold program h p.number p.store p.ahead)
      (sym (ap (λ (n : ℕ). take {A = Entry} n []) placed))
      (subst (λ (k : ℕ). AreTold program [] k p.store p.ahead) (sym number)
      (told_first program p.ahead p.store nothing ahead));
  after = record {
    events = λ j at. absurd (omega (arith, number, at));
    rows = λ j at. absurd (omega (arith, number, at));
  };
  shapes_now = ap (λ (c : Cached). shapes c.rows) cached ∙ shapes_of_empty program;
  shapes_before = ap (λ (c : Cached). shapes c.before) cached ∙ shapes_of_empty program;
  kept = subst (λ (l : List (Option ℕ)). AreKept program [] p.number p.cached.rows l) (sym none)
      (subst (λ (rows : List UnitRows). AreKept program [] p.number rows
      (replicate (length program.units) None))
      (emptied_all program (all_empty program) (shapes_of_empty program)
      ∙ sym (ap (λ (c : Cached). c.rows) cached))
      (none_counted program [] p.number (all_empty program) (shapes_of_empty program)));
  ended = none_ended program p.counts;
  layer_most = omega arith;
  idle = λ closed. (placed, refl, none);
  opened = λ opened. absurd (true≢false (sym opened));
  brought = λ applied. absurd (true≢false (sym applied));
  applied = λ applied. absurd (true≢false (sym applied));
}
