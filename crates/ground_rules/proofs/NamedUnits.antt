-- The units and events of a program that atoms of instances name.
use Rattle.std.proofs.Common.{◌≡◌, ℕ, ◌+◌, ◌<◌, nat_lt, Bool, true, false, true≢false, not, List}
use Rattle.std.proofs.Common.{map, length, slice_get, option_map, Option, Some, None, refl, sym, ap}
use Rattle.std.proofs.Common.{subst, ◌∙◌, if◌then◌else◌}
use Rattle.std.proofs.lemmas.Bool.{and_from, lt-ltb}
use Rattle.std.proofs.lemmas.Option.{slice_get-map, none-some, same_Some}
use Rattle.ground_types.specs.Publication.{value_count}
use Rattle.ground_types.specs.Sound.{is_input, is_fluent, unit_values, is_fluent_value}
use Rattle.ground_types.specs.Sound.{is_derived_event, trigger_fits, what_fits}
use Rattle.ground_types.specs.declared.program.Domain.{Domain}
use Rattle.ground_types.specs.declared.program.Name.{Name}
use Rattle.ground_types.specs.declared.program.NameKind.{NameKind}
use Rattle.ground_types.specs.declared.program.NameKind.TheVariants as name_kind
use Rattle.ground_types.specs.declared.program.Trigger.TheVariants as trigger
use Rattle.ground_types.specs.declared.program.Cond.{Cond}
use Rattle.ground_types.specs.declared.program.Unit.{Unit}
use Rattle.ground_types.specs.declared.program.UnitKind.{UnitKind}
use Rattle.ground_types.specs.declared.program.UnitKind.TheVariants as unit_kind
use Rattle.ground_types.specs.declared.program.Program.{Program}
use Rattle.rule_forms.specs.declared.form.Atom.{Atom}
use Rattle.rule_forms.specs.declared.form.Fv.{Fv}
use Rattle.rule_forms.specs.declared.form.EventText.{EventText}
use Rattle.rule_forms.specs.declared.form.EventText.TheVariants as event
use Rattle.rule_forms.specs.declared.form.Body.{Body}
use Rattle.rule_forms.specs.declared.form.Body.TheVariants as body
use Rattle.rule_forms.specs.Sound.{AllOf}
use Rattle.decl_known.specs.Mentions.{AnyEvent, AnyFluent, Role, Mention, fits, fluent_value}
use Rattle.decl_known.specs.Mentions.{event_atom, event_mention, body_mentions}
use Rattle.ground_types.specs.Words.{declaration}
use Rattle.ground_names.specs.Numbers.{numbered}
use Rattle.ground_rules.specs.Assignments.{Instance}
use Rattle.ground_rules.specs.Atoms.{ground_atom, ground_args, value_in, ground_value, event_by}
use Rattle.ground_rules.specs.Atoms.{ground_event, ground_condition}
use Rattle.ground_rules.specs.Grounded.{PlainKind, Derived_is, plain_kind, PlainUnit, plain_unit}
use Rattle.ground_rules.specs.Grounded.{kind_by, instances_at, units_of, event_count}
use Rattle.decl_known.proofs.ComputedKinds.{fluent_computed}
use Rattle.ground_rules.proofs.Mentioned.{Grounds}
use Rattle.ground_rules.proofs.UnitsAt.{unit_of, unit_at, event_at}

-- a plain unit of a fluent
abbrev pub is_fluent_kind : PlainKind → Bool
is_fluent_kind (Derived_is rules) = false
is_fluent_kind kind = true

pub fluent_same : (kind : UnitKind) → is_fluent kind ≡ is_fluent_kind (plain_kind kind)
fluent_same (unit_kind.Simple initially initiate terminate) = refl
fluent_same (unit_kind.Static exprs) = refl
fluent_same (unit_kind.Derived rules) = refl

fluent_by : (kind : NameKind) (values : ℕ) (mine : List Instance) → fits AnyFluent kind ≡ true
    → is_fluent_kind (kind_by kind values mine) ≡ true
fluent_by name_kind.Input values mine e = absurd (true≢false (sym e))
fluent_by name_kind.Simple values mine e = refl
fluent_by name_kind.Static values mine e = refl
fluent_by name_kind.Derived values mine e = absurd (true≢false (sym e))

derived_by : (kind : NameKind) (values : ℕ) (mine : List Instance) → fits AnyEvent kind ≡ true
    → is_fluent_kind (kind_by kind values mine) ≡ false
derived_by name_kind.Input values mine e = refl
derived_by name_kind.Simple values mine e = absurd (true≢false (sym e))
derived_by name_kind.Static values mine e = absurd (true≢false (sym e))
derived_by name_kind.Derived values mine e = refl

-- the unit of a program that has a number and is, as plain data, this
unit_behind : (units : List Unit) (plain : List PlainUnit) (k : ℕ) (one : PlainUnit)
    → map plain_unit units ≡ plain → slice_get plain k ≡ Some one → (o : Option Unit)
    → slice_get units k ≡ o
    → (unit : Unit) × (slice_get units k ≡ Some unit) × (plain_unit unit ≡ one)
unit_behind units plain k one same at None e =
    absurd (none-some one (ap (option_map plain_unit) (sym e)
    ∙ sym (slice_get-map plain_unit units k) ∙ ap (λ us. slice_get us k) same ∙ at))
unit_behind units plain k one same at (Some unit) e = (
  unit,
  e,
  same_Some (plain_unit unit) one (ap (option_map plain_unit) (sym e)
      ∙ sym (slice_get-map plain_unit units k) ∙ ap (λ us. slice_get us k) same ∙ at),
)

module _ (program : Program) (domains : List Domain) (declared : List Name) (all : List Instance)
    (units : map plain_unit program.units ≡ units_of domains (numbered domains 0 0 declared) all)
    (named : program.names ≡ numbered domains 0 0 declared)
    (events : program.events ≡ event_count domains declared) where
  abbrev names : List Name
  names = numbered domains 0 0 declared

  -- the unit that an atom names
  pub record IsNamed (i : Instance) (m : Mention) (name : Name) : Type 0 where
    pub unit : Unit
    pub at : slice_get program.units (ground_atom i m.atom) ≡ Some unit
    pub place : slice_get names unit.name ≡ Some name
    pub kind : plain_kind unit.kind ≡ kind_by name.kind (length name.values)
        (instances_at (ground_atom i m.atom) all)
    pub values : unit_values program unit ≡ length name.values

  pub named_unit : (i : Instance) (m : Mention) (g : Grounds domains names i m)
      → is_input g.name.kind ≡ false → IsNamed i m g.name
  named_unit i m g computed =
      let number : g.name.first + g.number ≡ ground_atom i m.atom = sym g.atom in
      let args_of = ground_args i g.name m.atom.args in
      let one = unit_of all g.place g.name args_of (g.name.first + g.number) in
      let found = unit_behind program.units (units_of domains names all) (g.name.first + g.number)
      one units (unit_at domains declared all g.place g.name g.number args_of g.at computed
      g.args) (slice_get program.units (g.name.first + g.number)) refl in
      let place : slice_get names found.0.name ≡ Some g.name =
      ap (λ (u : PlainUnit). slice_get names u.name) found.2 ∙ g.at in
      record {
        unit = found.0;
        at = ap (slice_get program.units) g.atom ∙ found.1;
        place = place;
        kind = ap (λ (u : PlainUnit). u.kind) found.2
            ∙ ap (λ k. kind_by g.name.kind (length g.name.values) (instances_at k all)) number;
        values = ap (λ ns. value_count (slice_get ns found.0.name)) named ∙ ap value_count place;
      }

  module _ (i : Instance) (names_are : i.clause.names ≡ names) where
    value_of_found : (word : List ℕ) (m : Mention) (g : Grounds domains names i m)
        → value_in word (declaration i.clause.names m.atom.name) ≡ value_in word (Some g.name)
    value_of_found word m g = ap (value_in word) (ap (λ ns. declaration ns m.atom.name) names_are
        ∙ g.found)

    -- the value that stands behind an atom is one of its unit
    pub value_below : (fv : Fv) (role : Role) (g : Grounds domains names i (fluent_value role fv))
        → ground_value i fv < length g.name.values
    value_below fv role g = subst (λ n. n < length g.name.values)
        (sym (value_of_found fv.value (fluent_value role fv) g)) (g.value fv.value refl)

    pub fluent_fits : (fv : Fv) → Grounds domains names i (fluent_value AnyFluent fv)
        → is_fluent_value program (slice_get program.units (ground_atom i fv.atom))
        (ground_value i fv) ≡ true
    fluent_fits fv g =
        let u = named_unit i (fluent_value AnyFluent fv) g (fluent_computed g.name.kind g.kind) in
        let lt = value_below fv AnyFluent g in
        let fluent : is_fluent u.unit.kind ≡ true =
        fluent_same u.unit.kind ∙ ap is_fluent_kind u.kind
        ∙ fluent_by g.name.kind (length g.name.values) (instances_at (ground_atom i fv.atom) all)
        g.kind in
        ap (λ o. is_fluent_value program o (ground_value i fv)) u.at
        ∙ and_from (is_fluent u.unit.kind) (nat_lt (ground_value i fv) (unit_values program u.unit))
        fluent
        (lt-ltb (ground_value i fv) (unit_values program u.unit) (subst (λ n. ground_value i fv < n)
        (sym u.values) lt))

    plain_fits : (atom : Atom) (g : Grounds domains names i (event_atom AnyEvent atom)) (b : Bool)
        → is_input g.name.kind ≡ b
        → trigger_fits program (if b then trigger.Event (ground_atom i atom)
        else trigger.Derived (ground_atom i atom)) ≡ true
    plain_fits atom g true e =
        lt-ltb (ground_atom i atom) program.events
        (subst (λ n. ground_atom i atom < n) (sym events)
        (subst (λ n. n < event_count domains declared) (sym g.atom) (event_at domains declared
        all g.place g.name g.number g.at e g.inside)))
    plain_fits atom g false e =
        let u = named_unit i (event_atom AnyEvent atom) g e in
        let event : is_fluent u.unit.kind ≡ false =
        fluent_same u.unit.kind ∙ ap is_fluent_kind u.kind ∙ derived_by g.name.kind
        (length g.name.values) (instances_at (ground_atom i atom) all) g.kind in
        ap is_derived_event u.at ∙ ap not event

    pub event_fits : (text : EventText) → Grounds domains names i (event_mention text)
        → trigger_fits program (ground_event i text) ≡ true
    event_fits (event.Plain atom) g =
        ap (λ o. trigger_fits program (event_by o (ground_atom i atom)))
        (ap (λ ns. declaration ns atom.name) names_are ∙ g.found)
        ∙ plain_fits atom g (is_input g.name.kind) refl
    event_fits (event.Start fv) g = fluent_fits fv g
    event_fits (event.End fv) g = fluent_fits fv g

    pub condition_fits : (condition : Body) → AllOf (Grounds domains names i)
        (body_mentions condition) → (cond : Cond) → ground_condition i condition ≡ Some cond
        → what_fits program cond.what ≡ true
    condition_fits (body.Happens positive text) all cond e =
        ap (λ (c : Cond). what_fits program c.what) (sym (same_Some _ cond e))
        ∙ event_fits text all.0
    condition_fits (body.Holds positive fv) all cond e =
        ap (λ (c : Cond). what_fits program c.what) (sym (same_Some _ cond e))
        ∙ fluent_fits fv all.0
    condition_fits (body.Unequal x y) all cond e = absurd (none-some cond e)
