-- What is made of a unit of the open layer is what is published of it.
use Rattle.std.proofs.Common.{◌≡◌, ℕ, zero, suc, ◌<◌, ◌≤◌, true, List, [], ◌∷◌, map}
use Rattle.std.proofs.Common.{flat_map, length, take, slice_get, Option, None, Some, refl, sym}
use Rattle.std.proofs.Common.{◌∙◌, ap, ap₂, subst, arith, Result, Ok, Err, IfOk, OnOk, OnErr}
use Rattle.std.specs.Prelude.{option_map, option_and_then, sum_by}
use Rattle.std.specs.List.{list_all, AllByRecursion}
use Rattle.std.proofs.lemmas.List.Sums.{sum_by-cons}
use Rattle.std.proofs.lemmas.Option.{slice_get-map}
use Rattle.ground_types.specs.Meaning.{units_of_kind}
use Rattle.ground_types.specs.Members.{contains}
use Rattle.ground_types.specs.Publication.{PublishedRows, publication, opening_of}
use Rattle.ground_types.specs.Recognition.{kind_of, listed}
use Rattle.ground_types.specs.Sound.{IsSound, unit_values, kind_fits, rule_count}
use Rattle.ground_types.specs.Touched.{rules_of, evaluations_of_unit}
use Rattle.ground_types.specs.Windows.{left, right}
use Rattle.ground_types.specs.declared.entries.Entry.{Entry}
use Rattle.ground_types.specs.declared.program.Program.{Program}
use Rattle.ground_types.specs.declared.program.Unit.{Unit}
use Rattle.ground_types.specs.declared.program.UnitKind.{UnitKind}
use Rattle.layer_cache.proofs.Shaping.{size_by_shapes}
use Rattle.point_rule.specs.Known.{known, HasRows}
use Rattle.query_ask.specs.Right.{published}
use Rattle.simple_fluent.specs.Rows.{IsValueBelow}
use Rattle.span_algebra.specs.declared.rows.UnitRows.{UnitRows}
use Rattle.delay_revise.specs.Going.{IsRevising, Parts, end_before}
use Rattle.delay_revise.specs.Published.{HaveRowsOf, OccurIn}
use Rattle.delay_revise.specs.Revising.{Revising, Made, IsWorkOf, number_of, open_units}
use Rattle.delay_revise.specs.Revising.{layer_or_none}
use Rattle.delay_revise.specs.Revising.{rows_or_empty, trigger_points_of_unit}
use Rattle.delay_revise.specs.Working.{rows_over, triggers_of, touched_of, IsInWindow}
use Rattle.delay_revise.proofs.GoingOn.{open_number}
use Rattle.delay_revise.proofs.KeptUnits.{rows_of_ended, kept_inside, layer_named, layer_known}
use Rattle.delay_revise.proofs.KindRows.{rows_found}
use Rattle.delay_revise.proofs.LookUp.{published_of, occurs_of}
use Rattle.delay_revise.proofs.Naming.{IsUnitOf, unit_of, kind_named}
use Rattle.delay_revise.proofs.Opening.{opening_below, opening_length}
use Rattle.delay_revise.proofs.UnitCounts.{triggers_counted, first_counted, later_counted}

-- a unit of the open layer is one of a layer
record IsInLayer (program : Program) (layer unit : ℕ) : Type 0 where
  units : List ℕ
  at : slice_get program.layers layer ≡ Some units
  among : contains units unit ≡ true

in_layer_by : (program : Program) (layer unit : ℕ) (o : Option (List ℕ))
    → slice_get program.layers layer ≡ o → contains (layer_or_none o) unit ≡ true
    → IsInLayer program layer unit
in_layer_by program layer unit None at among = cc
in_layer_by program layer unit (Some units) at among = record {
  units = units;
  at = at;
  among = among;
}

in_layer : (r : Revising) (unit : ℕ) → contains (open_units r) unit ≡ true
    → IsInLayer r.program r.layer unit
in_layer r unit among = in_layer_by r.program r.layer unit (slice_get r.program.layers r.layer) refl
    among

-- it is a unit of the program
pub sound_open : (r : Revising) (unit : ℕ) → IsSound r.program
    → contains (open_units r) unit ≡ true → unit < length r.program.units
sound_open r unit sound among =
    let found = in_layer r unit among in
    layer_known r.program r.layer found.units unit sound found.at found.among

pub open_known : (r : Revising) (p : Parts) (unit : ℕ) → IsRevising r p
    → contains (open_units r) unit ≡ true → unit < length r.program.units
open_known r p unit is among = sound_open r unit is.sound among

-- the rules of one unit are some of all
one_of_all : {X : Type 0} (f : X → ℕ) (xs : List X) (i : ℕ) (x : X) → slice_get xs i ≡ Some x
    → f x ≤ sum_by f xs
one_of_all f [] i x at = cc
one_of_all {X} f (y ∷ ys) zero x at =
    let same : y ≡ x = cc in
    omega (arith, ap f same, sum_by-cons f y ys)
one_of_all f (y ∷ ys) (suc i) x at = omega (arith, one_of_all f ys i x at, sum_by-cons f y ys)

-- old rows that are published are those of each unit
old_rows_of : (program : Program) (history : List Entry) (j : ℕ) (units : List ℕ)
    (before : List UnitRows) → map published before ≡ (publication program history j).rows
    → HaveRowsOf program history j units before
old_rows_of program history j units before same = λ number unit at among.
    sym (slice_get-map published before number)
    ∙ ap (λ (l : List PublishedRows). slice_get l number) same

module _ (r : Revising) (p : Parts) (is : IsRevising r p) (opened : r.has_chunk ≡ true)
    (done : r.applied ≡ true) (unit : ℕ) (u : Unit) (among : contains (open_units r) unit ≡ true)
    (at : slice_get r.program.units unit ≡ Some u) where
  abbrev below : List ℕ
  below = flat_map (λ layer. layer) (take r.layer r.program.layers)

  there : IsUnitOf r.program unit u
  there = unit_of r.program unit u is.sound at

  pub fits_here : kind_fits r.program (unit_values r.program u) u.kind ≡ true
  fits_here = there.fits

  pub size_here : length p.cached.rows ≡ length r.program.units
  size_here = size_by_shapes r.program p.cached.rows is.shapes_now

  pub inside_here : IsInWindow (left r.program.plan p.number) (right r.program.plan p.number)
      p.cached.rows
  inside_here = kept_inside r.program r.taken p.number p.cached.rows p.counts is.sound size_here
      is.kept

  pub named_here : AllByRecursion (HasRows p.cached.rows) (rules_of u.kind)
  named_here = kind_named r.program (unit_values r.program u) u.kind p.cached.rows size_here
      fits_here

  pub old_named_here : AllByRecursion (HasRows p.cached.before) (rules_of u.kind)
  old_named_here = kind_named r.program (unit_values r.program u) u.kind p.cached.before
      (size_by_shapes r.program p.cached.before is.shapes_before) fits_here

  pub few_here : rule_count u.kind ≤ 262144
  few_here = omega (
    arith,
    one_of_all (λ (x : Unit). rule_count x.kind) r.program.units unit u at,
    is.sound.rules_most,
  )

  opening_here : (opening : Option ℕ) → slice_get p.opening unit ≡ Some opening
      → listed (opening_of r.program r.taken p.number) unit ≡ opening
  opening_here opening read =
      ap (option_and_then (λ v. v)) (ap (λ (l : List (Option ℕ)). slice_get l unit)
      (sym (is.applied done).opening_is) ∙ read)

  pub opens_here : (opening : Option ℕ) → slice_get p.opening unit ≡ Some opening
      → IsValueBelow (unit_values r.program u) opening
  opens_here opening read =
      subst (IsValueBelow (unit_values r.program u)) (opening_here opening read)
      (opening_below r.program r.taken p.number unit u is.sound at)

  names_below : list_all (contains below) (units_of_kind (kind_of r.program unit)) ≡ true
  names_below =
      let found = in_layer r unit among in
      layer_named r.program r.layer found.units unit is.sound found.at found.among

  rows_below : HaveRowsOf r.program r.taken p.number below p.cached.rows
  rows_below = rows_of_ended r.program r.taken p.number r.layer p.cached.rows p.counts is.kept
      is.ended

  fits_of : kind_fits r.program (unit_values r.program u) (kind_of r.program unit) ≡ true
  fits_of = ap (kind_fits r.program (unit_values r.program u)) there.kind ∙ fits_here

  -- its rows over those of the units that it names are those that are published
  pub rows_published : (opening : Option ℕ) (made : Option UnitRows)
      → slice_get p.opening unit ≡ Some opening
      → published (rows_or_empty r.program made u) ≡ rows_over (known p.cached.rows p.store) opening
      (unit_values r.program u) u.kind (left r.program.plan p.number)
      (right r.program.plan p.number)
      → option_map (λ u. published (rows_or_empty r.program made u))
      (slice_get r.program.units unit)
      ≡ slice_get (publication r.program r.taken (number_of r)).rows unit
  rows_published opening made read same =
      ap (option_map (λ u. published (rows_or_empty r.program made u))) at
      ∙ ap Some (same
      ∙ ap (λ (o : Option ℕ). rows_over (known p.cached.rows p.store) o (unit_values r.program u)
      u.kind (left r.program.plan p.number) (right r.program.plan p.number))
      (sym (opening_here opening read))
      ∙ rows_found r.program r.taken p.number p.store below p.cached.rows is.sound
      (is.applied done).events rows_below unit u at fits_here
      (ap (λ (k : UnitKind). list_all (contains below) (units_of_kind k)) (sym there.kind)
      ∙ names_below))
      ∙ sym (published_of r.program r.taken p.number unit u at)
      ∙ ap (λ (k : ℕ). slice_get (publication r.program r.taken k).rows unit)
      (sym (open_number r p is opened))

  counted_by : (k : ℕ) → p.number ≡ k →
      touched_of (end_before r.program.plan k) p.cached p.store (rules_of (kind_of r.program unit))
      (left r.program.plan k) (right r.program.plan k)
      ≡ evaluations_of_unit r.program r.taken k unit
  counted_by zero this =
      first_counted r.program r.taken p.cached p.store below is.sound
      (subst (λ (k : ℕ). OccurIn r.program r.taken k (occurs_of p.store)) this
      (is.applied done).events)
      (subst (λ (k : ℕ). HaveRowsOf r.program r.taken k below p.cached.rows) this rows_below)
      unit (unit_values r.program u) fits_of names_below
  counted_by (suc j) this =
      later_counted r.program r.taken j p.cached p.store below is.sound
      (old_rows_of r.program r.taken j below p.cached.before (is.after.rows j this))
      (is.after.events j this)
      (subst (λ (k : ℕ). HaveRowsOf r.program r.taken k below p.cached.rows) this rows_below)
      (subst (λ (k : ℕ). OccurIn r.program r.taken k (occurs_of p.store)) this
      (is.applied done).events)
      unit (unit_values r.program u) fits_of names_below

  -- its touched points are those of the query
  pub evaluations_counted : (count : ℕ) → count ≡ touched_of (end_before r.program.plan p.number)
      p.cached p.store (rules_of u.kind) (left r.program.plan p.number)
      (right r.program.plan p.number)
      → count ≡ evaluations_of_unit r.program r.taken (number_of r) unit
  evaluations_counted count same =
      same
      ∙ ap (λ (k : UnitKind). touched_of (end_before r.program.plan p.number) p.cached p.store
      (rules_of k) (left r.program.plan p.number) (right r.program.plan p.number)) (sym there.kind)
      ∙ counted_by p.number refl
      ∙ ap (λ (k : ℕ). evaluations_of_unit r.program r.taken k unit)
      (sym (open_number r p is opened))

  -- and so are its trigger points
  pub triggers_here : triggers_of (known p.cached.rows p.store) (rules_of u.kind)
      (left r.program.plan p.number) (right r.program.plan p.number)
      ≡ trigger_points_of_unit r.program r.taken (number_of r) unit
  triggers_here =
      ap (λ (k : UnitKind). triggers_of (known p.cached.rows p.store) (rules_of k)
      (left r.program.plan p.number) (right r.program.plan p.number)) (sym there.kind)
      ∙ triggers_counted r.program r.taken p.number p.store below p.cached.rows is.sound
      (is.applied done).events rows_below unit (unit_values r.program u) fits_of names_below
      ∙ ap (λ (k : ℕ). trigger_points_of_unit r.program r.taken k unit)
      (sym (open_number r p is opened))

  pub work_is : (opening : Option ℕ) (made : Option UnitRows) (count : ℕ)
      → slice_get p.opening unit ≡ Some opening
      → published (rows_or_empty r.program made u) ≡ rows_over (known p.cached.rows p.store) opening
      (unit_values r.program u) u.kind (left r.program.plan p.number)
      (right r.program.plan p.number)
      → count ≡ touched_of (end_before r.program.plan p.number)
      p.cached p.store (rules_of u.kind) (left r.program.plan p.number)
      (right r.program.plan p.number)
      → IsWorkOf r unit (record { rows = made; evaluations = count })
  work_is opening made count read rows counts = record {
    rows = rows_published opening made read rows;
    evaluations = evaluations_counted count counts;
  }

  -- the same of what stands for its program, its window and what it is seen as
  pub work_by : (now : Revising) (program : Program) (before : Option ℕ) (w q : ℕ)
      (opening : Option ℕ) (made : Made) → r ≡ now → program ≡ r.program
      → before ≡ end_before r.program.plan p.number → w ≡ left r.program.plan p.number
      → q ≡ right r.program.plan p.number → slice_get p.opening unit ≡ Some opening
      → published (rows_or_empty program made.rows u) ≡ rows_over (known p.cached.rows p.store)
      opening (unit_values program u) u.kind w q
      → made.evaluations ≡ touched_of before p.cached p.store (rules_of u.kind) w q
      → IsWorkOf now unit made
  work_by now program before w q opening made seen this ended from until read rows counts =
      subst (λ (s : Revising). IsWorkOf s unit made) seen
      (work_is opening made.rows made.evaluations read
      (ap (λ (of : Program). published (rows_or_empty of made.rows u)) (sym this) ∙ rows
      ∙ ap (λ (of : Program). rows_over (known p.cached.rows p.store) opening (unit_values of u)
      u.kind w q) this
      ∙ ap₂ (λ (a b : ℕ). rows_over (known p.cached.rows p.store) opening
      (unit_values r.program u) u.kind a b) from until)
      (counts
      ∙ ap (λ (o : Option ℕ). touched_of o p.cached p.store (rules_of u.kind) w q) ended
      ∙ ap₂ (λ (a b : ℕ). touched_of (end_before r.program.plan p.number) p.cached p.store
      (rules_of u.kind) a b) from until))

  pub triggers_by : (now : Revising) (w q : ℕ) → r ≡ now → w ≡ left r.program.plan p.number
      → q ≡ right r.program.plan p.number
      → triggers_of (known p.cached.rows p.store) (rules_of u.kind) w q
      ≡ trigger_points_of_unit now.program now.taken (number_of now) unit
  triggers_by now w q seen from until =
      ap₂ (λ (a b : ℕ). triggers_of (known p.cached.rows p.store) (rules_of u.kind) a b) from until
      ∙ triggers_here
      ∙ ap (λ (s : Revising). trigger_points_of_unit s.program s.taken (number_of s) unit) seen

-- there is an opening value for each unit
pub opening_there : (r : Revising) (p : Parts) → IsRevising r p → r.applied ≡ true
    → length p.opening ≡ length r.program.units
opening_there r p is done =
    ap (λ (l : List (Option ℕ)). length l) (is.applied done).opening_is
    ∙ opening_length r.program r.taken p.number

-- ---- answers by cases

pub if_ok_both : {T E : Type 0} (result : Result T E) (P Q R : T → Type 0) → IfOk result P
    → IfOk result Q → ((x : T) → P x → Q x → R x) → IfOk result R
if_ok_both (Ok x) P Q R one two go = go x one two
if_ok_both (Err e) P Q R one two go = tt

pub on_ok_more : {T E : Type 0} (result : Result T E) (P Q : Type 0) → OnOk result P → (P → Q)
    → OnOk result Q
on_ok_more (Ok x) P Q is go = go is
on_ok_more (Err e) P Q is go = tt

pub either_way : {T E : Type 0} (result : Result T E) (P Q R : Type 0) → OnOk result P
    → OnErr result Q → (P → R) → (Q → R) → R
either_way (Ok x) P Q R ok err one two = one ok
either_way (Err e) P Q R ok err one two = two err
