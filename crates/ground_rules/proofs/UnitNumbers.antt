-- The units and the ground events of a grounded program are in order, without gaps, and units are
-- of the kinds of their names.
use Rattle.std.proofs.Common.{◌≡◌, ℕ, suc, ◌+◌, Bool, true, false, ◌&&◌, List, [], ◌∷◌, ◌++◌}
use Rattle.std.proofs.Common.{length, map, flat_map, slice_get, Option, Some, None, refl, sym, ap}
use Rattle.std.proofs.Common.{ap₂, ◌∙◌, arith, if◌then◌else◌}
use Rattle.std.specs.List.{list_all, enumerate_from}
use Rattle.std.proofs.lemmas.List.{map-append}
use Rattle.std.proofs.lemmas.Bool.{eq-eqb}
use Rattle.std.proofs.lemmas.List.Sums.{sum_by-cons}
use Rattle.std.proofs.lemmas.List.Folds.{list_all-append}
use Rattle.ground_types.specs.Sound.{is_input, arguments_of, kind_agrees, has_kind_of_name}
use Rattle.ground_types.specs.Sound.{unit_heads, are_numbered}
use Rattle.ground_types.specs.declared.program.Domain.{Domain}
use Rattle.ground_types.specs.declared.program.Name.{Name}
use Rattle.ground_types.specs.declared.program.NameKind.{NameKind}
use Rattle.ground_types.specs.declared.program.NameKind.TheVariants as name_kind
use Rattle.ground_types.specs.declared.program.Unit.{Unit}
use Rattle.ground_types.specs.declared.program.UnitKind.{UnitKind}
use Rattle.ground_types.specs.declared.program.UnitKind.TheVariants as unit_kind
use Rattle.ground_types.specs.declared.program.Program.{Program}
use Rattle.decl_known.specs.declared.checked.Checked.{Checked}
use Rattle.decl_known.specs.Checked.{plain_checked}
use Rattle.ground_names.specs.Numbers.{numbered}
use Rattle.ground_rules.specs.Assignments.{Instance, instances}
use Rattle.ground_rules.specs.Grounded.{PlainKind, Simple_is, Static_is, Derived_is, plain_kind}
use Rattle.ground_rules.specs.Grounded.{PlainUnit, plain_unit, PlainProgram, plain_program}
use Rattle.ground_rules.specs.Grounded.{instances_at, kind_by, units_of_name, units_by, units_of}
use Rattle.ground_rules.specs.Grounded.{event_count, clauses, grounded}
use Rattle.ground_rules.proofs.KeptWords.{domains_are, names_are}

-- ---- order

abbrev pub head_of_unit : PlainUnit → ℕ × List ℕ
head_of_unit unit = (unit.name, unit.args)

module _ (program : Program) (all : List Instance) where
  heads_from : (place : ℕ) (name : Name) (first : ℕ) (list : List (List ℕ))
      → map head_of_unit (map (λ unit. record {
        name = place;
        args = unit.1;
        kind = kind_by name.kind (length name.values) (instances_at unit.0 all);
      })
      (enumerate_from first list))
      ≡ map (λ args. (place, args)) list
  heads_from place name first [] = refl
  heads_from place name first (args ∷ list) = ap (λ rest. (place, args) ∷ rest)
      (heads_from place name (first + 1) list)

  one_order : (input : Bool) (place : ℕ) (name : Name)
      → map head_of_unit (if input then [] else units_of_name program.domains all place name)
      ≡ (if input then [] else map (λ args. (place, args)) (arguments_of program.domains name))
  one_order true place name = refl
  one_order false place name = heads_from place name name.first (arguments_of program.domains name)

  pub heads_in_order : (names : List (ℕ × Name))
      → map head_of_unit (flat_map (units_by program.domains all) names) ≡ unit_heads program names
  heads_in_order [] = refl
  heads_in_order (name ∷ names) =
      map-append head_of_unit (units_by program.domains all name)
      (flat_map (units_by program.domains all) names)
      ∙ ap₂ ◌++◌ (one_order (is_input name.1.kind) name.0 name.1) (heads_in_order names)

-- ---- numbers

pub event_count-cons : (domains : List Domain) (name : Name) (names : List Name)
    → event_count domains (name ∷ names) ≡ (if is_input name.kind
    then length (arguments_of domains name) else 0) + event_count domains names
event_count-cons domains name names = sum_by-cons (λ name. if is_input name.kind
    then length (arguments_of domains name) else 0) name names

pub numbered_in_order : (program : Program) (names : List Name) (event unit : ℕ)
    → event + event_count program.domains names ≡ program.events
    → are_numbered program event unit (numbered program.domains event unit names) ≡ true
numbered_in_order program [] event unit h = eq-eqb event program.events (omega arith)
numbered_in_order program (name ∷ names) event unit h = by (is_input name.kind) refl (λ e u k.
    numbered_in_order program names e u k)
  where
    by : (b : Bool) → is_input name.kind ≡ b
        → ((e u : ℕ) → e + event_count program.domains names ≡ program.events
        → are_numbered program e u (numbered program.domains e u names) ≡ true)
        → are_numbered program event unit (numbered program.domains event unit (name ∷ names))
        ≡ true
    by true k rest =
        let more : event_count program.domains (name ∷ names)
        ≡ length (arguments_of program.domains name) + event_count program.domains names =
        event_count-cons program.domains name names
        ∙ ap (λ b. (if b then length (arguments_of program.domains name) else 0) + event_count
        program.domains names) k in
        rw k (ap₂ ◌&&◌ (eq-eqb event event refl)
        (rest (event + length (arguments_of program.domains name)) unit (omega arith)))
    by false k rest =
        let more : event_count program.domains (name ∷ names) ≡ 0 + event_count program.domains
        names =
        event_count-cons program.domains name names
        ∙ ap (λ b. (if b then length (arguments_of program.domains name) else 0) + event_count
        program.domains names) k in
        rw k (ap₂ ◌&&◌ (eq-eqb unit unit refl)
        (rest event (unit + length (arguments_of program.domains name)) (omega arith)))

-- ---- kinds

abbrev pub plain_kind_agrees : NameKind → PlainKind → Bool
plain_kind_agrees name_kind.Simple (Simple_is initially initiate terminate) = true
plain_kind_agrees name_kind.Static (Static_is exprs) = true
plain_kind_agrees name_kind.Derived (Derived_is rules) = true
plain_kind_agrees kind other = false

abbrev pub has_plain_kind : Option Name → PlainUnit → Bool
has_plain_kind None unit = false
has_plain_kind (Some name) unit = plain_kind_agrees name.kind unit.kind

agrees_by_plain : (kind : NameKind) (k : UnitKind) → kind_agrees kind k ≡ plain_kind_agrees kind
    (plain_kind k)
agrees_by_plain name_kind.Input (unit_kind.Simple initially initiate terminate) = refl
agrees_by_plain name_kind.Input (unit_kind.Static exprs) = refl
agrees_by_plain name_kind.Input (unit_kind.Derived rules) = refl
agrees_by_plain name_kind.Simple (unit_kind.Simple initially initiate terminate) = refl
agrees_by_plain name_kind.Simple (unit_kind.Static exprs) = refl
agrees_by_plain name_kind.Simple (unit_kind.Derived rules) = refl
agrees_by_plain name_kind.Static (unit_kind.Simple initially initiate terminate) = refl
agrees_by_plain name_kind.Static (unit_kind.Static exprs) = refl
agrees_by_plain name_kind.Static (unit_kind.Derived rules) = refl
agrees_by_plain name_kind.Derived (unit_kind.Simple initially initiate terminate) = refl
agrees_by_plain name_kind.Derived (unit_kind.Static exprs) = refl
agrees_by_plain name_kind.Derived (unit_kind.Derived rules) = refl

has_by_plain : (name : Option Name) (unit : Unit) → has_kind_of_name name unit ≡ has_plain_kind
    name (plain_unit unit)
has_by_plain None unit = refl
has_by_plain (Some name) unit = agrees_by_plain name.kind unit.kind

-- all units have the kinds of their names where that is so of their plain data
pub all_by_plain : (names : List Name) (units : List Unit)
    → list_all (λ unit. has_kind_of_name (slice_get names unit.name) unit) units
    ≡ list_all (λ unit. has_plain_kind (slice_get names unit.name) unit) (map plain_unit units)
all_by_plain names [] = refl
all_by_plain names (unit ∷ units) = ap₂ ◌&&◌ (has_by_plain (slice_get names unit.name) unit)
    (all_by_plain names units)

kind_is_that_of_name : (kind : NameKind) (values : ℕ) (mine : List Instance)
    → is_input kind ≡ false → plain_kind_agrees kind (kind_by kind values mine) ≡ true
kind_is_that_of_name name_kind.Input values mine e = sym e
kind_is_that_of_name name_kind.Simple values mine e = refl
kind_is_that_of_name name_kind.Static values mine e = refl
kind_is_that_of_name name_kind.Derived values mine e = refl

module _ (domains : List Domain) (whole : List Name) (all : List Instance) where
  kinds_of_name : (place : ℕ) (name : Name) → slice_get whole place ≡ Some name
      → is_input name.kind ≡ false → (first : ℕ) (list : List (List ℕ))
      → list_all (λ unit. has_plain_kind (slice_get whole unit.name) unit)
      (map (λ unit. record {
        name = place;
        args = unit.1;
        kind = kind_by name.kind (length name.values) (instances_at unit.0 all);
      })
      (enumerate_from first list))
      ≡ true
  kinds_of_name place name at unit first [] = refl
  kinds_of_name place name at unit first (args ∷ list) =
      ap₂ ◌&&◌
      (ap (λ o. has_plain_kind o (record {
        name = place;
        args = args;
        kind = kind_by name.kind (length name.values) (instances_at first all);
      })) at
      ∙ kind_is_that_of_name name.kind (length name.values) (instances_at first all) unit)
      (kinds_of_name place name at unit (first + 1) list)

  kinds_at : (place : ℕ) (name : Name) → slice_get whole place ≡ Some name → (b : Bool)
      → is_input name.kind ≡ b
      → list_all (λ unit. has_plain_kind (slice_get whole unit.name) unit) (if b then []
      else units_of_name domains all place name) ≡ true
  kinds_at place name at true e = refl
  kinds_at place name at false e = kinds_of_name place name at e name.first
      (arguments_of domains name)

  -- the units of names that stand from a place on have their kinds
  pub kinds_from : (names : List Name) (place : ℕ)
      → ((i : ℕ) → slice_get names i ≡ slice_get whole (place + i))
      → list_all (λ unit. has_plain_kind (slice_get whole unit.name) unit)
      (flat_map (units_by domains all) (enumerate_from place names)) ≡ true
  kinds_from [] place at = refl
  kinds_from (name ∷ names) place at =
      let here : place + 0 ≡ place = omega arith in
      list_all-append (λ unit. has_plain_kind (slice_get whole unit.name) unit)
      (units_by domains all (place, name)) (flat_map (units_by domains all)
      (enumerate_from (place + 1) names))
      ∙ ap₂ ◌&&◌ (kinds_at place name (ap (slice_get whole) (sym here) ∙ sym (at 0))
      (is_input name.kind) refl) (kinds_from names (place + 1) (λ i. at (suc i)
      ∙ ap (slice_get whole) (next i)))
    where
      next : (i : ℕ) → place + suc i ≡ (place + 1) + i
      next i = omega arith

-- ---- the units of a grounded program

module _ (checked : Checked) (of_name : List ℕ) (program : Program) (made : plain_program program
    ≡ grounded (plain_checked checked) of_name) where
  pub names_by_domains : program.names ≡ numbered program.domains 0 0 checked.names
  names_by_domains = names_are checked of_name program made
      ∙ ap (λ ds. numbered ds 0 0 checked.names) (sym (domains_are checked of_name program made))

  pub events_by_domains : program.events ≡ event_count program.domains checked.names
  events_by_domains = ap (λ (p : PlainProgram). p.events) made
      ∙ ap (λ ds. event_count ds checked.names) (sym (domains_are checked of_name program made))

  pub units_are : map plain_unit program.units ≡ units_of checked.domains
      (numbered checked.domains 0 0 checked.names)
      (flat_map instances (clauses (plain_checked checked)))
  units_are = ap (λ (p : PlainProgram). p.units) made

  pub units_by_program : map plain_unit program.units ≡ units_of program.domains program.names
      (flat_map instances (clauses (plain_checked checked)))
  units_by_program =
      units_are ∙ ap₂ (λ ds ns. units_of ds ns
      (flat_map instances (clauses (plain_checked checked))))
      (sym (domains_are checked of_name program made))
      (sym (names_are checked of_name program made))

  pub order : map (λ unit. (unit.name, unit.args)) program.units ≡ unit_heads program
      (enumerate_from 0 program.names)
  order =
      heads_by_plain program.units ∙ ap (map head_of_unit) units_by_program
      ∙ heads_in_order program (flat_map instances (clauses (plain_checked checked)))
      (enumerate_from 0 program.names)
    where
      heads_by_plain : (units : List Unit) → map (λ unit. (unit.name, unit.args)) units
          ≡ map head_of_unit (map plain_unit units)
      heads_by_plain [] = refl
      heads_by_plain (unit ∷ units) = ap (λ rest. (unit.name, unit.args) ∷ rest)
          (heads_by_plain units)

  pub numbering : are_numbered program 0 0 program.names ≡ true
  numbering = ap (are_numbered program 0 0) names_by_domains ∙ numbered_in_order program
      checked.names 0 0 (omega (arith, events_by_domains))

  pub kinds : list_all (λ unit. has_kind_of_name (slice_get program.names unit.name) unit)
      program.units ≡ true
  kinds =
      all_by_plain program.names program.units
      ∙ ap (list_all (λ unit. has_plain_kind (slice_get program.names unit.name) unit))
      units_by_program
      ∙ kinds_from program.domains program.names
      (flat_map instances (clauses (plain_checked checked))) program.names 0
      (λ i. ap (slice_get program.names) (from_zero i))
    where
      from_zero : (i : ℕ) → i ≡ 0 + i
      from_zero i = omega arith
