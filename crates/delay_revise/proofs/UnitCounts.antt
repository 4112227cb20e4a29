-- How many bodies of a unit have to be looked at.
use Rattle.std.proofs.Common.{◌≡◌, ℕ, suc, nat_lt, ◌+◌, ◌-◌, ◌*◌, ◌<◌, ◌≤◌, Bool, true}
use Rattle.std.proofs.Common.{◌&&◌, List, [], ◌∷◌, ◌++◌, length, flat_map, Option, None, Some}
use Rattle.std.proofs.Common.{refl, sym, ◌∙◌, ap, ap₂, arith}
use Rattle.std.specs.Prelude.{sum_by}
use Rattle.std.specs.List.{list_all, range_with_len}
use Rattle.std.proofs.lemmas.Grind.{flat_map-append}
use Rattle.std.proofs.lemmas.List.FromFn.{length-range_with_len}
use Rattle.std.proofs.lemmas.List.Sums.{sum_by-cons}
use Rattle.std.proofs.lemmas.Bool.{and_parts}
use Rattle.std.proofs.lemmas.List.Sums.{length-filter, count_by-le-length}
use Rattle.ground_types.specs.Meaning.{units_of_trigger, units_of_what, units_of_rule}
use Rattle.ground_types.specs.Meaning.{units_of_kind}
use Rattle.ground_types.specs.Members.{contains}
use Rattle.ground_types.specs.Publication.{query_table}
use Rattle.ground_types.specs.Recognition.{kind_of}
use Rattle.ground_types.specs.Rows.{points}
use Rattle.ground_types.specs.Sound.{IsSound, trigger_fits, what_fits, rule_fits, kind_fits}
use Rattle.ground_types.specs.Touched.{touched, rules_of, evaluations_of_unit}
use Rattle.ground_types.specs.Truth.{happens}
use Rattle.ground_types.specs.Windows.{left, right}
use Rattle.ground_types.specs.declared.entries.Entry.{Entry}
use Rattle.ground_types.specs.declared.program.Rule.{Rule}
use Rattle.ground_types.specs.declared.program.UnitKind.{UnitKind}
use Rattle.ground_types.specs.declared.program.UnitKind.TheVariants.{Simple, Static, Derived}
use Rattle.ground_types.specs.declared.program.Program.{Program}
use Rattle.event_store.specs.Standing.{Events, stood}
use Rattle.layer_cache.specs.Rows.{Cached}
use Rattle.point_rule.specs.Known.{known, is_open}
use Rattle.span_algebra.specs.declared.rows.UnitRows.{UnitRows}
use Rattle.delay_revise.specs.Published.{OccurIn, OccurBefore, HaveRowsOf}
use Rattle.delay_revise.specs.Revising.{trigger_points_of_unit}
use Rattle.delay_revise.specs.Working.{triggers_of, open_points, touched_of}
use Rattle.delay_revise.proofs.Alike.{points_alike}
use Rattle.delay_revise.proofs.EachItem.{all_left, all_right, all_both}
use Rattle.delay_revise.proofs.KindRows.{DoesFit, fits_simple}
use Rattle.delay_revise.proofs.LookUp.{trigger_found, occurs_of}
use Rattle.delay_revise.proofs.Touching.{touched_are}

-- a window has as many points as it is long
pub points_few : (test : ℕ → Bool) (w q : ℕ) → length (points test w q) ≤ q - w
points_few test w q = omega (
  arith,
  length-filter test (range_with_len (w + 1) (q - w)),
  count_by-le-length test (range_with_len (w + 1) (q - w)),
  length-range_with_len (w + 1) (q - w),
)

-- for each rule at most as many as the window is long
pub touched_few : (before : Option ℕ) (cached : Cached) (store : Events) (rules : List Rule)
    (w q most : ℕ) → q - w ≤ most → touched_of before cached store rules w q ≤ length rules * most
touched_few before cached store [] w q most le = omega arith
touched_few before cached store (rule ∷ rest) w q most le =
    omega (
      arith,
      points_few (λ t. happens (known cached.rows store) rule.trigger t
          && is_open before cached store rule t) w q,
      touched_few before cached store rest w q most le,
      sum_by-cons (λ (rule : Rule). length (open_points before cached store w q rule)) rule rest,
    )

fits_trigger : (program : Program) (count : ℕ) (rule : Rule) → rule_fits program count rule ≡ true
    → trigger_fits program rule.trigger ≡ true
fits_trigger program count rule fits =
    (and_parts (nat_lt rule.value count) (trigger_fits program rule.trigger)
    (and_parts (nat_lt rule.value count && trigger_fits program rule.trigger)
    (list_all (λ cond. what_fits program cond.what) rule.conds) fits).0).1

-- sums over the rules of a unit of a program are equal where they are for each rule that names
-- units of a list alone
module _ (program : Program) (below : List ℕ) (one two : Rule → ℕ)
    (same : (count : ℕ) (rule : Rule) → rule_fits program count rule ≡ true
    → list_all (contains below) (units_of_rule rule) ≡ true → one rule ≡ two rule) where
  rules_counted : (count : ℕ) (rules : List Rule) → list_all (rule_fits program count) rules ≡ true
      → list_all (contains below) (flat_map units_of_rule rules) ≡ true
      → sum_by one rules ≡ sum_by two rules
  rules_counted count [] fit done = refl
  rules_counted count (rule ∷ rest) fit done =
      sum_by-cons one rule rest
      ∙ ap₂ (λ (m n : ℕ). m + n)
      (same count rule
      (and_parts (rule_fits program count rule) (list_all (rule_fits program count) rest) fit).0
      (all_left (contains below) (units_of_rule rule) (flat_map units_of_rule rest) done))
      (rules_counted count rest (and_parts (rule_fits program count rule)
      (list_all (rule_fits program count) rest) fit).1
      (all_right (contains below) (units_of_rule rule) (flat_map units_of_rule rest) done))
      ∙ sym (sum_by-cons two rule rest)

  pub kind_counted : (count : ℕ) (kind : UnitKind) → kind_fits program count kind ≡ true
      → list_all (contains below) (units_of_kind kind) ≡ true →
      sum_by one (rules_of kind) ≡ sum_by two (rules_of kind)
  kind_counted count (Simple initially initiate terminate) fits done =
      let fit : DoesFit program count initiate terminate = fits_simple program count initially
      initiate terminate fits in
      rules_counted count (initiate ++ terminate)
      (all_both (rule_fits program count) initiate terminate fit.inits fit.terms)
      (ap (list_all (contains below)) (flat_map-append units_of_rule initiate terminate) ∙ done)
  kind_counted count (Static exprs) fits done = refl
  kind_counted count (Derived rules) fits done = rules_counted 1 rules fits done

module _ (program : Program) (history : List Entry) (k : ℕ) (store : Events) (below : List ℕ)
    (rows : List UnitRows)
    (sound : IsSound program) (events : OccurIn program history k (occurs_of store))
    (have : HaveRowsOf program history k below rows) where
  trigger_there : (count : ℕ) (rule : Rule) → rule_fits program count rule ≡ true
      → list_all (contains below) (units_of_rule rule) ≡ true → (t : ℕ) → left program.plan k < t
      → t ≤ right program.plan k →
      happens (known rows store) rule.trigger t ≡ happens (query_table program history k)
      rule.trigger t
  trigger_there count rule fits done t above within =
      trigger_found program history k (occurs_of store) below rows sound events have
      rule.trigger t (fits_trigger program count rule fits)
      (all_left (contains below) (units_of_trigger rule.trigger)
      (flat_map (λ cond. units_of_what cond.what) rule.conds) done) above within

  triggers_there : (count : ℕ) (rule : Rule) → rule_fits program count rule ≡ true
      → list_all (contains below) (units_of_rule rule) ≡ true →
      length (points (happens (known rows store) rule.trigger) (left program.plan k)
      (right program.plan k))
      ≡ length (points (happens (query_table program history k) rule.trigger) (left program.plan k)
      (right program.plan k))
  triggers_there count rule fits done =
      ap (λ (l : List ℕ). length l) (points_alike (happens (known rows store) rule.trigger)
      (happens (query_table program history k) rule.trigger) (left program.plan k)
      (right program.plan k)
      (trigger_there count rule fits done))

  -- the triggers of a unit's rules occur over the rows of the units that it names as often as in
  -- the query
  pub triggers_counted : (number count : ℕ) → kind_fits program count (kind_of program number)
      ≡ true → list_all (contains below) (units_of_kind (kind_of program number)) ≡ true →
      triggers_of (known rows store) (rules_of (kind_of program number)) (left program.plan k)
      (right program.plan k)
      ≡ trigger_points_of_unit program history k number
  triggers_counted number count fits done =
      kind_counted program below
      (λ rule. length (points (happens (known rows store) rule.trigger) (left program.plan k)
      (right program.plan k)))
      (λ rule. length (points (happens (query_table program history k) rule.trigger)
      (left program.plan k) (right program.plan k)))
      triggers_there count (kind_of program number) fits done

-- the open points of query 0 are its touched points
module _ (program : Program) (history : List Entry) (cached : Cached) (store : Events)
    (below : List ℕ)
    (sound : IsSound program) (events : OccurIn program history 0 (occurs_of store))
    (have : HaveRowsOf program history 0 below cached.rows) where
  first_touched : (count : ℕ) (rule : Rule) → rule_fits program count rule ≡ true
      → list_all (contains below) (units_of_rule rule) ≡ true →
      length (open_points None cached store (left program.plan 0) (right program.plan 0) rule)
      ≡ length (touched program history 0 rule)
  first_touched count rule fits done =
      ap (λ (l : List ℕ). length l)
      (points_alike (λ t. happens (known cached.rows store) rule.trigger t && true)
      (λ t. happens (query_table program history 0) rule.trigger t && true)
      (left program.plan 0) (right program.plan 0)
      (λ t above within. ap (λ (b : Bool). b && true)
      (trigger_there program history 0 store below cached.rows sound events have count rule fits
      done t above within)))

  pub first_counted : (number count : ℕ) → kind_fits program count (kind_of program number) ≡ true
      → list_all (contains below) (units_of_kind (kind_of program number)) ≡ true →
      touched_of None cached store (rules_of (kind_of program number)) (left program.plan 0)
      (right program.plan 0)
      ≡ evaluations_of_unit program history 0 number
  first_counted number count fits done =
      kind_counted program below
      (λ rule. length (open_points None cached store (left program.plan 0) (right program.plan 0)
      rule))
      (λ rule. length (touched program history 0 rule))
      first_touched count (kind_of program number) fits done

-- so are those of a later one
module _ (program : Program) (history : List Entry) (k : ℕ) (cached : Cached) (store : Events)
    (below : List ℕ) (sound : IsSound program)
    (old_rows : HaveRowsOf program history k below cached.before)
    (old_events : OccurBefore program history k (stood store))
    (rows : HaveRowsOf program history (suc k) below cached.rows)
    (events : OccurIn program history (suc k) (occurs_of store)) where
  pub later_counted : (number count : ℕ) → kind_fits program count (kind_of program number) ≡ true
      → list_all (contains below) (units_of_kind (kind_of program number)) ≡ true →
      touched_of (Some (right program.plan k)) cached store (rules_of (kind_of program number))
      (left program.plan (suc k)) (right program.plan (suc k))
      ≡ evaluations_of_unit program history (suc k) number
  later_counted number count fits done =
      kind_counted program below
      (λ rule. length (open_points (Some (right program.plan k)) cached store
      (left program.plan (suc k)) (right program.plan (suc k)) rule))
      (λ rule. length (touched program history (suc k) rule))
      (λ values rule fit named. ap (λ (l : List ℕ). length l)
      (touched_are program history k below cached store sound old_rows old_events rows events
      values rule fit named))
      count (kind_of program number) fits done
