-- What the rules of a unit name, and what fits of it.
use Rattle.std.proofs.Common.{◌≡◌, ℕ, zero, suc, Bool, true, ◌&&◌, nat_lt, List, [], ◌∷◌, ◌++◌}
use Rattle.std.proofs.Common.{◌<◌, get_or, flat_map, length, slice_get, Option, Some, None, refl}
use Rattle.std.proofs.Common.{sym, ◌∙◌, ap}
use Rattle.std.specs.List.{list_all, AllByRecursion}
use Rattle.std.proofs.lemmas.Bool.{and_parts, lt-ltb}
use Rattle.std.proofs.lemmas.Option.{slice_get_within, slice_get_read}
use Rattle.ground_types.specs.Meaning.{units_of_trigger, units_of_what, units_of_rule}
use Rattle.ground_types.specs.Recognition.{kind_of, kind_or_idle}
use Rattle.ground_types.specs.Sound.{IsSound, unit_values, is_fluent_value, is_derived_event}
use Rattle.ground_types.specs.Sound.{trigger_fits, what_fits, rule_fits, kind_fits}
use Rattle.ground_types.specs.Touched.{rules_of}
use Rattle.ground_types.specs.declared.program.Cond.{Cond}
use Rattle.ground_types.specs.declared.program.Rule.{Rule}
use Rattle.ground_types.specs.declared.program.Trigger.{Trigger}
use Rattle.ground_types.specs.declared.program.Trigger.TheVariants as trigger
use Rattle.ground_types.specs.declared.program.What.{What}
use Rattle.ground_types.specs.declared.program.What.TheVariants.{Happens, Holds}
use Rattle.ground_types.specs.declared.program.Unit.{Unit}
use Rattle.ground_types.specs.declared.program.UnitKind.{UnitKind}
use Rattle.ground_types.specs.declared.program.UnitKind.TheVariants.{Simple, Static, Derived}
use Rattle.ground_types.specs.declared.program.Program.{Program}
use Rattle.point_rule.specs.Known.{HasRows}
use Rattle.span_algebra.specs.declared.rows.UnitRows.{UnitRows}
use Rattle.delay_revise.proofs.EachItem.{all_both}
use Rattle.delay_revise.proofs.KindRows.{DoesFit, fits_simple}

-- what passes is passed at each place
pub all_at : {X : Type 0} (test : X → Bool) (xs : List X) (k : ℕ) (x : X) → list_all test xs ≡ true
    → slice_get xs k ≡ Some x → test x ≡ true
all_at test [] k x all is = cc
all_at test (y ∷ ys) zero x all is = let same : y ≡ x = cc in ap test (sym same)
    ∙ (and_parts (test y) (list_all test ys) all).0
all_at test (y ∷ ys) (suc k) x all is = all_at test ys k x (and_parts (test y) (list_all test ys)
    all).1 is

-- what is known of a unit of a sound program
pub record IsUnitOf (program : Program) (number : ℕ) (unit : Unit) : Type 0 where
  pub fits : kind_fits program (unit_values program unit) unit.kind ≡ true
  pub kind : kind_of program number ≡ unit.kind

pub unit_of : (program : Program) (number : ℕ) (unit : Unit) → IsSound program
    → slice_get program.units number ≡ Some unit →
    IsUnitOf program number unit
unit_of program number unit sound at = record {
  fits = all_at (λ (u : Unit). kind_fits program (unit_values program u) u.kind) program.units
      number unit sound.rule_numbers at;
  kind = ap kind_or_idle at;
}

pub fluent_known : (program : Program) (number v : ℕ) (found : Option Unit)
    → slice_get program.units number ≡ found →
    is_fluent_value program found v ≡ true → nat_lt number (length program.units) ≡ true
fluent_known program number v None at fits = cc
fluent_known program number v (Some unit) at fits = lt-ltb number (length program.units)
    (slice_get_within program.units number unit at)

event_known : (program : Program) (number : ℕ) (found : Option Unit)
    → slice_get program.units number ≡ found → is_derived_event found ≡ true →
    nat_lt number (length program.units) ≡ true
event_known program number None at fits = cc
event_known program number (Some unit) at fits = lt-ltb number (length program.units)
    (slice_get_within program.units number unit at)

-- the units that a rule names are units of the program
module _ (program : Program) where
  trigger_named : (trigger : Trigger) → trigger_fits program trigger ≡ true →
      list_all (λ unit. nat_lt unit (length program.units)) (units_of_trigger trigger) ≡ true
  trigger_named (trigger.Event event) fits = refl
  trigger_named (trigger.Derived unit) fits = ap (λ (b : Bool). b && true)
      (event_known program unit (slice_get program.units unit) refl fits)
  trigger_named (trigger.Start unit v) fits = ap (λ (b : Bool). b && true)
      (fluent_known program unit v (slice_get program.units unit) refl fits)
  trigger_named (trigger.End unit v) fits = ap (λ (b : Bool). b && true) (fluent_known program unit
      v (slice_get program.units unit) refl fits)

  what_named : (what : What) → what_fits program what ≡ true
      → list_all (λ unit. nat_lt unit (length program.units)) (units_of_what what) ≡ true
  what_named (Happens trigger) fits = trigger_named trigger fits
  what_named (Holds unit v) fits = ap (λ (b : Bool). b && true) (fluent_known program unit v
      (slice_get program.units unit) refl fits)

  conditions_named : (conds : List Cond) → list_all (λ cond. what_fits program cond.what) conds
      ≡ true →
      list_all (λ unit. nat_lt unit (length program.units))
      (flat_map (λ cond. units_of_what cond.what) conds) ≡ true
  conditions_named [] fit = refl
  conditions_named (c ∷ rest) fit =
      all_both (λ unit. nat_lt unit (length program.units)) (units_of_what c.what)
      (flat_map (λ cond. units_of_what cond.what) rest)
      (what_named c.what (and_parts (what_fits program c.what)
      (list_all (λ cond. what_fits program cond.what) rest) fit).0)
      (conditions_named rest (and_parts (what_fits program c.what)
      (list_all (λ cond. what_fits program cond.what) rest) fit).1)

  rule_named : (count : ℕ) (rule : Rule) → rule_fits program count rule ≡ true →
      list_all (λ unit. nat_lt unit (length program.units)) (units_of_rule rule) ≡ true
  rule_named count rule fits =
      let first : Bool = nat_lt rule.value count in
      let triggers : Bool = trigger_fits program rule.trigger in
      let others : Bool = list_all (λ cond. what_fits program cond.what) rule.conds in
      all_both (λ unit. nat_lt unit (length program.units)) (units_of_trigger rule.trigger)
      (flat_map (λ cond. units_of_what cond.what) rule.conds)
      (trigger_named rule.trigger (and_parts first triggers (and_parts (first && triggers) others
      fits).0).1)
      (conditions_named rule.conds (and_parts (first && triggers) others fits).1)

  rules_named : (count : ℕ) (rules : List Rule) (rows : List UnitRows)
      → length rows ≡ length program.units →
      list_all (rule_fits program count) rules ≡ true → AllByRecursion (HasRows rows) rules
  rules_named count [] rows size fit = tt
  rules_named count (rule ∷ rest) rows size fit = (
    ap (λ (n : ℕ). list_all (λ unit. nat_lt unit n) (units_of_rule rule)) size
        ∙ rule_named count rule (and_parts (rule_fits program count rule)
        (list_all (rule_fits program count) rest) fit).0,
    rules_named count rest rows size (and_parts (rule_fits program count rule)
        (list_all (rule_fits program count) rest) fit).1,
  )

  pub kind_named : (count : ℕ) (kind : UnitKind) (rows : List UnitRows)
      → length rows ≡ length program.units → kind_fits program count kind ≡ true →
      AllByRecursion (HasRows rows) (rules_of kind)
  kind_named count (Simple initially initiate terminate) rows size fits =
      let fit : DoesFit program count initiate terminate = fits_simple program count initially
      initiate terminate fits in
      rules_named count (initiate ++ terminate) rows size
      (all_both (rule_fits program count) initiate terminate fit.inits fit.terms)
  kind_named count (Static exprs) rows size fits = tt
  kind_named count (Derived rules) rows size fits = rules_named 1 rules rows size fits

-- the unit that is read is there
pub unit_read : (program : Program) (units : List Unit) (number : ℕ) (unit : Unit)
    → units ≡ program.units → number < length program.units →
    unit ≡ get_or units number unit → slice_get program.units number ≡ Some unit
unit_read program units number unit same within is =
    slice_get_read program.units (length program.units) number unit refl within (is
    ∙ ap (λ (l : List Unit). get_or l number unit) same)
