-- The touched points of a rule over old and new rows are those of the query.
use Rattle.std.proofs.Common.{◌≡◌, ◌⊎◌, inl, inr, ℕ, suc, ◌+◌, ◌*◌, ◌<◌, ◌≤◌, Bool, true}
use Rattle.std.proofs.Common.{◌&&◌, ◌||◌, false, cond, ltb, nat_lt, List, [], ◌∷◌, flat_map}
use Rattle.std.proofs.Common.{Some, refl, sym, ◌∙◌, ap, ap₂, not, arith}
use Rattle.std.specs.List.{list_all, list_any}
use Rattle.std.proofs.Math.Nat.{suc-mul}
use Rattle.std.proofs.lemmas.Bool.{and_parts, lt-ltb, cases_lt}
use Rattle.std.proofs.lemmas.Bool.Decides.{nat_tests}
use Rattle.std.proofs.lemmas.List.Folds.{list_all-append}
use Rattle.ground_types.specs.Meaning.{units_of_trigger, units_of_what, units_of_rule}
use Rattle.ground_types.specs.History.{stands, before_seal}
use Rattle.ground_types.specs.Members.{contains}
use Rattle.ground_types.specs.Publication.{query_table}
use Rattle.ground_types.specs.Rows.{points}
use Rattle.ground_types.specs.Sound.{IsSound, trigger_fits, what_fits, rule_fits}
use Rattle.ground_types.specs.Touched.{differs, is_changed, is_unsettled, touched}
use Rattle.ground_types.specs.Truth.{happens, is_so, condition_holds}
use Rattle.ground_types.specs.Windows.{left, right}
use Rattle.ground_types.specs.declared.entries.Entry.{Entry}
use Rattle.ground_types.specs.declared.program.Cond.{Cond}
use Rattle.ground_types.specs.declared.program.Program.{Program}
use Rattle.ground_types.specs.declared.program.Rule.{Rule}
use Rattle.ground_types.specs.declared.program.Trigger.{Trigger}
use Rattle.ground_types.specs.declared.program.Trigger.TheVariants.{Event, Derived, Start, End}
use Rattle.ground_types.specs.declared.program.What.{What}
use Rattle.ground_types.specs.declared.program.What.TheVariants.{Happens, Holds}
use Rattle.span_algebra.specs.declared.rows.UnitRows.{UnitRows}
use Rattle.event_store.specs.Standing.{Events, stood}
use Rattle.layer_cache.specs.Rows.{Cached}
use Rattle.point_rule.specs.Known.{known, known_before, with_events, is_open}
use Rattle.delay_revise.specs.Published.{OccurIn, OccurBefore, HaveRowsOf}
use Rattle.delay_revise.proofs.Alike.{points_alike}
use Rattle.delay_revise.proofs.LookUp.{trigger_found, condition_found, occurs_of}

-- what happens at a point, over rows and over events that occur alike at that point
happens_alike : (rows : List UnitRows) (occurs others : ℕ → ℕ → Bool) (t : ℕ)
    → ((event : ℕ) → occurs event t ≡ others event t) → (trigger : Trigger) →
    happens (with_events rows occurs) trigger t ≡ happens (with_events rows others) trigger t
happens_alike rows occurs others t alike (Event event) = alike event
happens_alike rows occurs others t alike (Derived unit) = refl
happens_alike rows occurs others t alike (Start unit v) = refl
happens_alike rows occurs others t alike (End unit v) = refl

is_so_alike : (rows : List UnitRows) (occurs others : ℕ → ℕ → Bool) (t : ℕ)
    → ((event : ℕ) → occurs event t ≡ others event t) → (what : What) →
    is_so (with_events rows occurs) what t ≡ is_so (with_events rows others) what t
is_so_alike rows occurs others t alike (Happens trigger) = happens_alike rows occurs others t alike
    trigger
is_so_alike rows occurs others t alike (Holds unit v) = refl

module _ (program : Program) (history : List Entry) (k : ℕ) (units : List ℕ) (cached : Cached)
    (store : Events) (sound : IsSound program)
    (old_rows : HaveRowsOf program history k units cached.before)
    (old_events : OccurBefore program history k (stood store))
    (new_rows : HaveRowsOf program history (suc k) units cached.rows)
    (new_events : OccurIn program history (suc k) (occurs_of store)) where
  -- what stood in the store, and what stood at the seal before at the points that the store lost
  abbrev occurred : ℕ → ℕ → Bool
  occurred event t = cond (ltb (left program.plan (suc k)) t) (stood store event t)
      (stands (before_seal history k) event t)

  occurred_here : (t : ℕ) → left program.plan (suc k) < t → (event : ℕ)
      → occurred event t ≡ stood store event t
  occurred_here t low event = ap (λ (b : Bool). cond b (stood store event t)
      (stands (before_seal history k) event t)) (lt-ltb (left program.plan (suc k)) t low)

  occurred_by : (event t : ℕ) → (left program.plan (suc k) < t) ⊎ (t ≤ left program.plan (suc k))
      → event < program.events → t ≤ right program.plan k →
      occurred event t ≡ stands (before_seal history k) event t
  occurred_by event t (inl low) few high = occurred_here t low event
      ∙ old_events event t few low high
  occurred_by event t (inr past) few high =
      let no : ltb (left program.plan (suc k)) t ≡ false = grind (arith, nat_tests) in
      ap (λ (b : Bool). cond b (stood store event t) (stands (before_seal history k) event t)) no

  all_occurred : OccurIn program history k occurred
  all_occurred = λ event t few low high. occurred_by event t
      (cases_lt (left program.plan (suc k)) t) few high

  trigger_before : (trigger : Trigger) (t : ℕ) → trigger_fits program trigger ≡ true
      → list_all (contains units) (units_of_trigger trigger) ≡ true →
      left program.plan k < t → left program.plan (suc k) < t → t ≤ right program.plan k →
      happens (known_before cached store) trigger t
      ≡ happens (query_table program history k) trigger t
  trigger_before trigger t fits done above low within =
      sym (happens_alike cached.before occurred (stood store) t (occurred_here t low) trigger)
      ∙ trigger_found program history k occurred units cached.before sound all_occurred old_rows
      trigger t fits done above within

  trigger_now : (trigger : Trigger) (t : ℕ) → trigger_fits program trigger ≡ true
      → list_all (contains units) (units_of_trigger trigger) ≡ true →
      left program.plan (suc k) < t → t ≤ right program.plan (suc k) →
      happens (known cached.rows store) trigger t
      ≡ happens (query_table program history (suc k)) trigger t
  trigger_now = trigger_found program history (suc k) (occurs_of store) units cached.rows sound
      new_events new_rows

  condition_before : (c : Cond) (t : ℕ) → what_fits program c.what ≡ true
      → list_all (contains units) (units_of_what c.what) ≡ true →
      left program.plan k < t → left program.plan (suc k) < t → t ≤ right program.plan k →
      condition_holds (known_before cached store) c t
      ≡ condition_holds (query_table program history k) c t
  condition_before c t fits done above low within =
      sym (ap (λ (b : Bool). cond c.positive b (not b))
      (is_so_alike cached.before occurred (stood store) t (occurred_here t low) c.what))
      ∙ condition_found program history k occurred units cached.before sound all_occurred old_rows
      c t fits done above within

  condition_now : (c : Cond) (t : ℕ) → what_fits program c.what ≡ true
      → list_all (contains units) (units_of_what c.what) ≡ true →
      left program.plan (suc k) < t → t ≤ right program.plan (suc k) →
      condition_holds (known cached.rows store) c t
      ≡ condition_holds (query_table program history (suc k)) c t
  condition_now = condition_found program history (suc k) (occurs_of store) units cached.rows sound
      new_events new_rows

  -- where the windows overlap, a condition has another truth in the two tables where it has in the
  -- two queries
  conditions_differ : (conds : List Cond) (t : ℕ)
      → list_all (λ cond. what_fits program cond.what) conds ≡ true →
      list_all (contains units) (flat_map (λ cond. units_of_what cond.what) conds) ≡ true →
      left program.plan k < t → t ≤ right program.plan k →
      left program.plan (suc k) < t → t ≤ right program.plan (suc k) →
      list_any (λ cond. differs (condition_holds (known_before cached store) cond t)
      (condition_holds (known cached.rows store) cond t)) conds
      ≡ list_any (λ cond. differs (condition_holds (query_table program history k) cond t)
      (condition_holds (query_table program history (suc k)) cond t)) conds
  conditions_differ [] t fit done old_low old_high low high = refl
  conditions_differ (c ∷ rest) t fit done old_low old_high low high =
      let more : List ℕ = flat_map (λ cond. units_of_what cond.what) rest in
      let fits = and_parts (what_fits program c.what) (list_all (λ cond. what_fits program
      cond.what) rest) fit in
      let named = and_parts (list_all (contains units) (units_of_what c.what))
      (list_all (contains units) more)
      (sym (list_all-append (contains units) (units_of_what c.what) more) ∙ done) in
      ap₂ (λ (a b : Bool). a || b)
      (ap₂ differs (condition_before c t fits.0 named.0 old_low low old_high)
      (condition_now c t fits.0 named.0 low high))
      (conditions_differ rest t fits.1 named.1 old_low old_high low high)

  module _ (values : ℕ) (rule : Rule) (fits : rule_fits program values rule ≡ true)
      (done : list_all (contains units) (units_of_rule rule) ≡ true) where
    trigger_fits_too : trigger_fits program rule.trigger ≡ true
    trigger_fits_too = (and_parts (nat_lt rule.value values) (trigger_fits program rule.trigger)
        (and_parts (nat_lt rule.value values && trigger_fits program rule.trigger)
        (list_all (λ cond. what_fits program cond.what) rule.conds) fits).0).1

    named_parts : (list_all (contains units) (units_of_trigger rule.trigger) ≡ true)
        × (list_all (contains units) (flat_map (λ cond. units_of_what cond.what) rule.conds)
        ≡ true)
    named_parts = and_parts (list_all (contains units) (units_of_trigger rule.trigger))
        (list_all (contains units) (flat_map (λ cond. units_of_what cond.what) rule.conds))
        (sym (list_all-append (contains units) (units_of_trigger rule.trigger)
        (flat_map (λ cond. units_of_what cond.what) rule.conds)) ∙ done)

    changed_alike : (t : ℕ) → left program.plan k < t → t ≤ right program.plan k →
        left program.plan (suc k) < t → t ≤ right program.plan (suc k) →
        is_changed (known_before cached store) (known cached.rows store) rule t
        ≡ is_changed (query_table program history k) (query_table program history (suc k)) rule t
    changed_alike t old_low old_high low high =
        ap₂ (λ (a b : Bool). a || b)
        (ap₂ differs (trigger_before rule.trigger t trigger_fits_too named_parts.0 old_low low
        old_high)
        (trigger_now rule.trigger t trigger_fits_too named_parts.0 low high))
        (conditions_differ rule.conds t
        (and_parts (nat_lt rule.value values && trigger_fits program rule.trigger)
        (list_all (λ cond. what_fits program cond.what) rule.conds) fits).1 named_parts.1 old_low
        old_high low high)

    open_by : (t : ℕ) → (right program.plan k < t) ⊎ (t ≤ right program.plan k) →
        left program.plan (suc k) < t → t ≤ right program.plan (suc k) →
        is_open (Some (right program.plan k)) cached store rule t
        ≡ is_unsettled program history (suc k) rule t
    open_by t (inl past) low high =
        let yes = lt-ltb (right program.plan k) t past in
        ap (λ (b : Bool). b || is_changed (known_before cached store) (known cached.rows store)
        rule t) yes
        ∙ sym (ap (λ (b : Bool). b || is_changed (query_table program history k)
        (query_table program history (suc k)) rule t) yes)
    open_by t (inr within) low high =
        let next : suc k * program.plan.step ≡ k * program.plan.step + program.plan.step =
        suc-mul k program.plan.step in
        ap (λ (b : Bool). nat_lt (right program.plan k) t || b)
        (changed_alike t (omega (arith, next)) within low high)

    pub touched_are : points (λ t. happens (known cached.rows store) rule.trigger t
        && is_open (Some (right program.plan k)) cached store rule t) (left program.plan (suc k))
        (right program.plan (suc k))
        ≡ touched program history (suc k) rule
    touched_are = points_alike (λ t. happens (known cached.rows store) rule.trigger t
        && is_open (Some (right program.plan k)) cached store rule t)
        (λ t. happens (query_table program history (suc k)) rule.trigger t
        && is_unsettled program history (suc k) rule t) (left program.plan (suc k))
        (right program.plan (suc k))
        (λ t low high. ap₂ (λ (a b : Bool). a && b)
        (trigger_now rule.trigger t trigger_fits_too named_parts.0 low high)
        (open_by t (cases_lt (right program.plan k) t) low high))
