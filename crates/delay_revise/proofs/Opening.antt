-- The values with which units open a query.
use Rattle.std.proofs.Common.{◌≡◌, ◌≢◌, ℕ, zero, suc, ◌+◌, ◌-◌, ◌^◌, ◌<◌, ◌≤◌, Bool, true}
use Rattle.std.proofs.Common.{false, cond}
use Rattle.std.proofs.Common.{◌&&◌, ◌||◌, nat_lt, List, [], ◌∷◌, ◌++◌, map, filter, fold, min}
use Rattle.std.proofs.Common.{length, slice_get, get_or, take, Option, Some, None, refl, sym, ◌∙◌}
use Rattle.std.proofs.Common.{ap, ap₂, subst, arith, eqb, take_all}
use Rattle.std.proofs.Math.Bool.{or-false}
use Rattle.std.proofs.Math.Nat.{suc-mul}
use Rattle.std.specs.Prelude.{option_map, option_and_then, position}
use Rattle.std.specs.List.{list_all, range_with_len, position_from}
use Rattle.std.proofs.lemmas.Bool.{and_parts}
use Rattle.std.proofs.lemmas.Bool.Decides.{nat_tests}
use Rattle.std.proofs.lemmas.List.FromFn.{length-range_with_len}
use Rattle.std.proofs.lemmas.List.{take_more, length-map}
use Rattle.std.proofs.lemmas.Iterator.Adapters.{position_from-zero}
use Rattle.std.proofs.lemmas.Option.{slice_get-map, slice_get-get_or, slice_get_within, same_Some}
use Rattle.ground_types.specs.Inertia.{next_value, kept_unless, value_after}
use Rattle.ground_types.specs.Members.{contains}
use Rattle.ground_types.proofs.Members.{contains_hit}
use Rattle.ground_types.specs.Publication.{opening_of, query_table, publication, initial_of}
use Rattle.ground_types.specs.Publication.{PublishedRows}
use Rattle.ground_types.specs.Recognition.{values_of, value_of_unit, static_of_unit, listed}
use Rattle.ground_types.specs.Recognition.{kind_of, kind_or_idle}
use Rattle.ground_types.specs.Sound.{IsSound, unit_values, initial_fits, rule_fits, kind_fits}
use Rattle.ground_types.specs.Sound.{trigger_fits, what_fits, is_fluent, is_fluent_value}
use Rattle.ground_types.specs.Truth.{Table, is_value, body_holds}
use Rattle.ground_types.specs.History.{stands, before_seal}
use Rattle.ground_types.specs.Windows.{left, right}
use Rattle.ground_types.specs.declared.entries.Entry.{Entry}
use Rattle.ground_types.specs.declared.program.Rule.{Rule}
use Rattle.ground_types.specs.declared.program.Unit.{Unit}
use Rattle.ground_types.specs.declared.program.UnitKind.{UnitKind}
use Rattle.ground_types.specs.declared.program.UnitKind.TheVariants.{Simple, Static, Derived}
use Rattle.ground_types.specs.declared.program.Program.{Program}
use Rattle.layer_cache.specs.Cached.{unit_shapes, unit_shape, shape_by, first_value_at}
use Rattle.layer_cache.specs.Cached.{small_value}
use Rattle.layer_cache.specs.Shapes.{shape, shapes}
use Rattle.layer_cache.specs.Told.{fluent_has, value_covers}
use Rattle.simple_fluent.specs.Rows.{IsValueBelow}
use Rattle.span_algebra.specs.Normal.{covers as has_span}
use Rattle.span_algebra.specs.declared.spans.Span.{Span}
use Rattle.span_algebra.specs.declared.rows.UnitRows.{UnitRows}
use Rattle.span_algebra.specs.declared.rows.UnitRows.TheVariants.{Fluent, Event}
use Rattle.delay_revise.specs.Published.{HaveRowsOf}
use Rattle.delay_revise.specs.Going.{IsSmall}
use Rattle.query_ask.specs.Right.{published}
use Rattle.query_ask.proofs.TrueAnswers.{range_at}
use Rattle.delay_revise.proofs.LookUp.{table_means, value_found}
use Rattle.delay_revise.proofs.Naming.{all_at}

-- a list of numbers below a count
abbrev are_below : ℕ → List ℕ → Bool
are_below count vs = list_all (λ v. nat_lt v count) vs

least_below : (count v : ℕ) (vs : List ℕ) → v < count → fold min v vs < count
least_below count v [] lt = lt
least_below count v (x ∷ xs) lt = least_below count (min v x) xs (omega (arith, lt))

first_below : (count v : ℕ) (vs : List ℕ) → are_below count (v ∷ vs) ≡ true
    → fold min v vs < count
first_below count v vs all =
    let first : nat_lt v count ≡ true = (and_parts (nat_lt v count) (are_below count vs) all).0 in
    least_below count v vs (grind (arith, nat_tests))

kept_by : (count v : ℕ) (ended : Bool) → v < count → IsValueBelow count (cond ended None (Some v))
kept_by count v true lt = tt
kept_by count v false lt = lt

kept_below : (count : ℕ) (value : Option ℕ) (ended : List ℕ) → IsValueBelow count value
    → IsValueBelow count (kept_unless value ended)
kept_below count None ended below = tt
kept_below count (Some v) ended below = kept_by count v (contains ended v) below

next_below : (count : ℕ) (value : Option ℕ) (initiated terminated : List ℕ)
    → IsValueBelow count value → are_below count initiated ≡ true
    → IsValueBelow count (next_value value initiated terminated)
next_below count value [] terminated below all = kept_below count value terminated below
next_below count value (v ∷ vs) terminated below all = first_below count v vs all

after_below : (count : ℕ) (opening : Option ℕ) (initiated terminated : ℕ → List ℕ) (w n : ℕ)
    → IsValueBelow count opening → ((t : ℕ) → are_below count (initiated t) ≡ true)
    → IsValueBelow count (value_after opening initiated terminated w n)
after_below count opening initiated terminated w zero below all = below
after_below count opening initiated terminated w (suc n) below all =
    next_below count (value_after opening initiated terminated w n) (initiated (w + suc n))
    (terminated (w + suc n)) (after_below count opening initiated terminated w n below all)
    (all (w + suc n))

-- the values of rules that fit are values
values_more : (count : ℕ) (rule : Rule) (rest : List Rule) (b : Bool)
    → nat_lt rule.value count ≡ true → are_below count (map (λ rule. rule.value) rest) ≡ true
    → are_below count (map (λ rule. rule.value) (cond b (rule ∷ rest) rest)) ≡ true
values_more count rule rest true first all = ap₂ (λ (a b : Bool). a && b) first all
values_more count rule rest false first all = all

values_below : (program : Program) (count : ℕ) (table : Table) (rules : List Rule) (t : ℕ)
    → list_all (rule_fits program count) rules ≡ true
    → are_below count (values_of table rules t) ≡ true
values_below program count table [] t fits = refl
values_below program count table (rule ∷ rest) t fits =
    let parts = and_parts (rule_fits program count rule) (list_all (rule_fits program count) rest)
    fits in
    let triggers : Bool = trigger_fits program rule.trigger in
    let others : Bool = list_all (λ cond. what_fits program cond.what) rule.conds in
    values_more count rule (filter (λ rule. body_holds table rule t) rest)
    (body_holds table rule t)
    (and_parts (nat_lt rule.value count) triggers
    (and_parts (nat_lt rule.value count && triggers) others parts.0).0).0
    (values_below program count table rest t parts.1)

-- what fits of a simple fluent: its first value, and the rules that initiate
first_fits : (program : Program) (count : ℕ) (initially : Option ℕ) (initiate terminate : List
    Rule) → kind_fits program count (Simple initially initiate terminate) ≡ true
    → (initial_fits count initially ≡ true)
    × (list_all (rule_fits program count) initiate ≡ true)
first_fits program count initially initiate terminate fits =
    let first : Bool = initial_fits count initially in
    let inits : Bool = list_all (rule_fits program count) initiate in
    let terms : Bool = list_all (rule_fits program count) terminate in
    and_parts first inits (and_parts (first && inits) terms fits).0

initial_by : (count : ℕ) (value : Option ℕ) → initial_fits count value ≡ true
    → IsValueBelow count value
initial_by count None fits = tt
initial_by count (Some v) fits = grind (arith, nat_tests)

initial_below : (program : Program) (count : ℕ) (kind : UnitKind)
    → kind_fits program count kind ≡ true → IsValueBelow count (initial_of kind)
initial_below program count (Simple initially initiate terminate) fits =
    initial_by count initially (first_fits program count initially initiate terminate fits).0
initial_below program count (Static exprs) fits = tt
initial_below program count (Derived rules) fits = tt

value_below : (program : Program) (count : ℕ) (table : Table) (opening : Option ℕ)
    (kind : UnitKind) (w t : ℕ) → kind_fits program count kind ≡ true
    → IsValueBelow count opening → IsValueBelow count (value_of_unit table opening kind w t)
value_below program count table opening (Simple initially initiate terminate) w t fits below =
    after_below count opening (values_of table initiate) (values_of table terminate) w
    (t - (w + 1)) below
    (λ t. values_below program count table initiate t
    (first_fits program count initially initiate terminate fits).1)
value_below program count table opening (Static exprs) w t fits below = tt
value_below program count table opening (Derived rules) w t fits below = tt

-- the unit of a program by its number
module _ (program : Program) (history : List Entry) (number : ℕ) (unit : Unit)
    (at : slice_get program.units number ≡ Some unit) where
  kind_here : kind_of program number ≡ unit.kind
  kind_here = ap (λ (o : Option Unit). kind_or_idle o) at

  opening_first : listed (opening_of program history 0) number ≡ initial_of unit.kind
  opening_first =
      ap (λ (o : Option (Option ℕ)). option_and_then (λ v. v) o)
      (slice_get-map (λ (unit : Unit). initial_of unit.kind) program.units number
      ∙ ap (λ (o : Option Unit). option_map (λ unit. initial_of unit.kind) o) at)

  opening_next : (k : ℕ) → listed (opening_of program history (suc k)) number
      ≡ (query_table program history k).value number (left program.plan (suc k) + 1)
  opening_next k =
      let value : ℕ → Option ℕ = λ unit. (query_table program history k).value unit
      (left program.plan (suc k) + 1) in
      ap (λ (o : Option (Option ℕ)). option_and_then (λ v. v) o)
      (slice_get-map value (range_with_len 0 (length program.units)) number
      ∙ ap (λ (o : Option ℕ). option_map value o) (range_at (length program.units) number
      (slice_get_within program.units number unit at)))

  value_here : (k t : ℕ) → IsSound program → (query_table program history k).value number t
      ≡ value_of_unit (query_table program history k) (listed (opening_of program history k)
      number) unit.kind (left program.plan k) t
  value_here k t sound =
      (table_means program history k sound).simple_fluents number t
      ∙ ap (λ (kind : UnitKind). value_of_unit (query_table program history k)
      (listed (opening_of program history k) number) kind (left program.plan k) t) kind_here

  static_here : (k v t : ℕ) → IsSound program → (query_table program history k).static number v t
      ≡ static_of_unit (query_table program history k) unit.kind v t
  static_here k v t sound =
      (table_means program history k sound).static_fluents number v t
      ∙ ap (λ (kind : UnitKind). static_of_unit (query_table program history k) kind v t)
      kind_here

  fits_here : IsSound program → kind_fits program (unit_values program unit) unit.kind ≡ true
  fits_here sound =
      all_at (λ unit. kind_fits program (unit_values program unit) unit.kind) program.units number
      unit sound.rule_numbers at

  below_here : (k : ℕ) → IsSound program
      → IsValueBelow (unit_values program unit) (listed (opening_of program history k) number)
  below_here zero sound =
      subst (IsValueBelow (unit_values program unit)) (sym opening_first)
      (initial_below program (unit_values program unit) unit.kind (fits_here sound))
  below_here (suc k) sound =
      let t : ℕ = left program.plan (suc k) + 1 in
      subst (IsValueBelow (unit_values program unit)) (sym (opening_next k ∙ value_here k t sound))
      (value_below program (unit_values program unit) (query_table program history k)
      (listed (opening_of program history k) number) unit.kind (left program.plan k) t
      (fits_here sound) (below_here k sound))

-- the value with which a unit opens a query is one of its values
pub opening_below : (program : Program) (history : List Entry) (k number : ℕ) (unit : Unit)
    → IsSound program → slice_get program.units number ≡ Some unit
    → IsValueBelow (unit_values program unit) (listed (opening_of program history k) number)
opening_below program history k number unit sound at =
    below_here program history number unit at k sound

-- a unit that is no simple fluent opens with no value
abbrev pub is_simple : UnitKind → Bool
is_simple (Simple initially initiate terminate) = true
is_simple (Static exprs) = false
is_simple (Derived rules) = false

no_initial : (kind : UnitKind) → is_simple kind ≡ false → initial_of kind ≡ None
no_initial (Simple initially initiate terminate) other = cc
no_initial (Static exprs) other = refl
no_initial (Derived rules) other = refl

no_later : (table : Table) (opening : Option ℕ) (kind : UnitKind) (w t : ℕ)
    → is_simple kind ≡ false → value_of_unit table opening kind w t ≡ None
no_later table opening (Simple initially initiate terminate) w t other = cc
no_later table opening (Static exprs) w t other = refl
no_later table opening (Derived rules) w t other = refl

pub no_opening : (program : Program) (history : List Entry) (k number : ℕ) (unit : Unit)
    → IsSound program → slice_get program.units number ≡ Some unit → is_simple unit.kind ≡ false
    → listed (opening_of program history k) number ≡ None
no_opening program history zero number unit sound at other =
    opening_first program history number unit at ∙ no_initial unit.kind other
no_opening program history (suc k) number unit sound at other =
    opening_next program history number unit at k
    ∙ value_here program history number unit at k (left program.plan (suc k) + 1) sound
    ∙ no_later (query_table program history k) (listed (opening_of program history k) number)
    unit.kind (left program.plan k) (left program.plan (suc k) + 1) other

pub first_opening : (program : Program) (history : List Entry) (number : ℕ) (unit : Unit)
    → slice_get program.units number ≡ Some unit
    → listed (opening_of program history 0) number ≡ initial_of unit.kind
first_opening program history number unit at = opening_first program history number unit at

-- A search for the first row that has the point finds the only value that has one there.
found_none : (test : List Span → Bool) (i : ℕ) (rows : List (List Span))
    → ((v : ℕ) → v < length rows → test (get_or rows v []) ≡ false)
    → position_from test i rows ≡ None
found_none test i [] same = refl
found_none test i (x ∷ xs) same =
    ap (λ (b : Bool). cond b (Some i) (position_from test (i + 1) xs)) (same 0 (omega arith))
    ∙ found_none test (i + 1) xs (λ v lt. same (suc v) (omega (arith, lt)))

found_at : (i u : ℕ) (first b : Bool) (later : Option ℕ) → first ≡ b → eqb u i ≡ b
    → (b ≡ false → later ≡ Some u) → cond first (Some i) later ≡ Some u
found_at i u first true later is same go =
    let here : i ≡ u = grind (arith, nat_tests) in
    ap (λ (c : Bool). cond c (Some i) later) is ∙ ap Some here
found_at i u first false later is same go =
    ap (λ (c : Bool). cond c (Some i) later) is ∙ go refl

above : (i u : ℕ) → i ≤ u → eqb u i ≡ false → i + 1 ≤ u
above i u low other = grind (arith, nat_tests)

found_some : (test : List Span → Bool) (i : ℕ) (rows : List (List Span)) (u : ℕ) → i ≤ u
    → u < i + length rows → ((v : ℕ) → v < length rows → test (get_or rows v []) ≡ eqb u (i + v))
    → position_from test i rows ≡ Some u
found_some test i [] u low high same = absurd (omega (arith, low, high))
found_some test i (x ∷ xs) u low high same =
    let here : i + 0 ≡ i = omega arith in
    found_at i u (test x) (eqb u i) (position_from test (i + 1) xs)
    (same 0 (omega arith) ∙ ap (λ (m : ℕ). eqb u m) here) refl
    (λ other. found_some test (i + 1) xs u (above i u low other) (omega (arith, high))
    (λ v lt. (let next : i + suc v ≡ i + 1 + v = omega arith in
    same (suc v) (omega (arith, lt)) ∙ ap (λ (m : ℕ). eqb u m) next)))

found : (test : List Span → Bool) (rows : List (List Span)) (value : Option ℕ)
    → IsValueBelow (length rows) value
    → ((v : ℕ) → v < length rows → test (get_or rows v []) ≡ is_value value v)
    → position test rows ≡ value
found test rows None below same =
    position_from-zero test rows ∙ found_none test 0 rows same
found test rows (Some u) below same =
    position_from-zero test rows ∙ found_some test 0 rows u (omega arith) (omega (arith, below))
    (λ v lt. (let next : v ≡ 0 + v = omega arith in
    same v lt ∙ ap (λ (m : ℕ). eqb u m) next))

small_is : (count : ℕ) (value : Option ℕ) → IsValueBelow count value
    → nat_lt count (2 ^ 32) ≡ true → small_value value ≡ value
small_is count None below small = refl
small_is count (Some v) below small =
    let low : nat_lt v (2 ^ 32) ≡ true = grind (arith, nat_tests) in
    ap (λ (b : Bool). cond b (Some v) None) low

-- the first value whose row has the point, where the rows have it just where they are this value
read_by : (count t : ℕ) (rows : Option UnitRows) (value : Option ℕ)
    → option_map shape rows ≡ Some (Some count) → IsValueBelow count value
    → nat_lt count (2 ^ 32) ≡ true
    → ((v : ℕ) → v < count → fluent_has rows v t ≡ is_value value v)
    → first_value_at rows t ≡ value
read_by count t None value shaped below small same = cc
read_by count t (Some (Event points)) value shaped below small same = cc
read_by count t (Some (Fluent rows)) value shaped below small same =
    let long : length rows ≡ count = same_Some (length rows) count
    (same_Some (Some (length rows)) (Some count) shaped) in
    let here : position (λ row. has_span row t) rows ≡ value =
    found (λ row. has_span row t) rows value
    (subst (λ (n : ℕ). IsValueBelow n value) (sym long) below)
    (λ v lt. sym (ap (λ (o : Option (List Span)). value_covers o t)
    (slice_get-get_or rows v [] lt)) ∙ same v (omega (arith, lt, long))) in
    ap small_value here ∙ small_is count value below small

-- the next window begins in this one, or where it ends
next_left : (program : Program) (k : ℕ) → IsSound program
    → (left program.plan k < left program.plan (suc k) + 1)
    × (left program.plan (suc k) + 1 ≤ right program.plan k + 1)
next_left program k sound =
    let more : left program.plan (suc k) ≡ left program.plan k + program.plan.step =
    omega (arith, suc-mul k program.plan.step) in
    (omega (arith, more), omega (arith, more, sound.plan.step_most))

-- of one unit alone, the rows of a publication are these
have_rows : (program : Program) (history : List Entry) (k number : ℕ) (before : List UnitRows)
    → map published before ≡ (publication program history k).rows
    → HaveRowsOf program history k (number ∷ []) before
have_rows program history k number before same = λ other unit at done.
    sym (slice_get-map published before other)
    ∙ ap (λ (rows : List PublishedRows). slice_get rows other) same

module _ (program : Program) (history : List Entry) (k number : ℕ) (unit : Unit)
    (initially : Option ℕ) (initiate terminate : List Rule)
    (before : List UnitRows) (sound : IsSound program) (small : IsSmall program)
    (at : slice_get program.units number ≡ Some unit)
    (is : unit.kind ≡ Simple initially initiate terminate)
    (size : shapes before ≡ unit_shapes program)
    (same : map published before ≡ (publication program history k).rows) where
  fits_value : (v : ℕ) → v < unit_values program unit
      → is_fluent_value program (slice_get program.units number) v ≡ true
  fits_value v lt =
      let few : nat_lt v (unit_values program unit) ≡ true = grind (arith, nat_tests) in
      ap (λ (o : Option Unit). is_fluent_value program o v) at
      ∙ ap₂ (λ (a b : Bool). a && b) (ap is_fluent is) few

  no_static : (v t : ℕ) → (query_table program history k).static number v t ≡ false
  no_static v t =
      static_here program history number unit at k v t sound
      ∙ ap (λ (kind : UnitKind). static_of_unit (query_table program history k) kind v t) is

  shaped : option_map shape (slice_get before number) ≡ Some (Some (unit_values program unit))
  shaped =
      sym (slice_get-map shape before number)
      ∙ ap (λ (l : List (Option ℕ)). slice_get l number) size
      ∙ slice_get-map (unit_shape program) program.units number
      ∙ ap (λ (o : Option Unit). option_map (unit_shape program) o) at
      ∙ ap (λ (kind : UnitKind). Some (shape_by kind (unit_values program unit))) is

  has_value : (v : ℕ) → v < unit_values program unit
      → fluent_has (slice_get before number) v (left program.plan (suc k) + 1)
      ≡ is_value (listed (opening_of program history (suc k)) number) v
  has_value v lt =
      let t : ℕ = left program.plan (suc k) + 1 in
      let table : Table = query_table program history k in
      let inside = next_left program k sound in
      value_found program history k (λ event t. stands (before_seal history k) event t)
      (number ∷ []) before sound (λ event t few low high. refl)
      (have_rows program history k number before same)
      number v t (fits_value v lt) (contains_hit number [] number refl) inside.0 inside.1
      ∙ ap₂ (λ (a b : Bool). a || b)
      (sym (ap (λ (o : Option ℕ). is_value o v) (opening_next program history number unit at k)))
      (no_static v t)
      ∙ or-false (is_value (listed (opening_of program history (suc k)) number) v)

  -- what the rows of the query before tell is the value with which a simple fluent opens
  pub opening_read : first_value_at (slice_get before number) (left program.plan (suc k) + 1)
      ≡ listed (opening_of program history (suc k)) number
  opening_read =
      read_by (unit_values program unit) (left program.plan (suc k) + 1) (slice_get before number)
      (listed (opening_of program history (suc k)) number) shaped
      (opening_below program history (suc k) number unit sound at)
      (all_at (λ unit. nat_lt (unit_values program unit) (2 ^ 32)) program.units number unit
      small.values at) has_value

-- so at each query after the first
pub opening_later : (program : Program) (history : List Entry) (k number : ℕ) (unit : Unit)
    (initially : Option ℕ) (initiate terminate : List Rule) (before : List UnitRows)
    (value : Option ℕ) → IsSound program → IsSmall program
    → slice_get program.units number ≡ Some unit
    → unit.kind ≡ Simple initially initiate terminate → shapes before ≡ unit_shapes program
    → k ≢ 0
    → ((j : ℕ) → k ≡ suc j → map published before ≡ (publication program history j).rows)
    → value ≡ first_value_at (slice_get before number) (left program.plan k + 1)
    → value ≡ listed (opening_of program history k) number
opening_later program history zero number unit initially initiate terminate before value sound small
    at is size later same read = absurd (later refl)
opening_later program history (suc k) number unit initially initiate terminate before value sound
    small at is size later same read =
    read ∙ opening_read program history k number unit initially initiate terminate before sound
    small at is size (same k refl)

pub other_kind : (kind : UnitKind) → ((initially : Option ℕ) (initiate terminate : List Rule)
    → kind ≡ Simple initially initiate terminate → ⊥) → is_simple kind ≡ false
other_kind (Simple initially initiate terminate) other = absurd (other initially initiate terminate
    refl)
other_kind (Static exprs) other = refl
other_kind (Derived rules) other = refl

-- the openings of one more unit
pub opening_length : (program : Program) (history : List Entry) (k : ℕ)
    → length (opening_of program history k) ≡ length program.units
opening_length program history zero =
    length-map program.units (λ (unit : Unit). initial_of unit.kind)
opening_length program history (suc k) =
    length-map (range_with_len 0 (length program.units)) (λ (unit : ℕ).
    (query_table program history k).value unit (left program.plan (suc k) + 1))
    ∙ length-range_with_len 0 (length program.units)

pub listed_at : (values : List (Option ℕ)) (i : ℕ) → i < length values
    → listed values i ≡ get_or values i None
listed_at values i lt =
    ap (λ (o : Option (Option ℕ)). option_and_then (λ v. v) o) (slice_get-get_or values i None lt)

pub openings_more : (program : Program) (history : List Entry) (k i : ℕ)
    (found more : List (Option ℕ)) (value : Option ℕ) → i < length program.units
    → found ≡ take i (opening_of program history k)
    → value ≡ listed (opening_of program history k) i → more ≡ found ++ value ∷ []
    → more ≡ take (i + 1) (opening_of program history k)
openings_more program history k i found more value lt is here pushed =
    let all : List (Option ℕ) = opening_of program history k in
    let within : i < length all = omega (arith, lt, opening_length program history k) in
    pushed
    ∙ ap₂ (λ (l : List (Option ℕ)) (v : Option ℕ). l ++ v ∷ []) is
    (here ∙ listed_at all i within)
    ∙ sym (take_more all i None within)

pub openings_all : (program : Program) (history : List Entry) (k i : ℕ) → length program.units ≤ i
    → take i (opening_of program history k) ≡ opening_of program history k
openings_all program history k i le =
    take_all i (opening_of program history k)
    (omega (arith, le, opening_length program history k))
