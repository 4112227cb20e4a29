-- Public contracts speak by this: *Static fluent and derived event* and *Recognition*, the table of
-- one window, layer after layer.
use Rattle.std.specs.Prelude.{ℕ, nat_lt, nat_le, Bool, false, ◌&&◌, ◌==◌, if◌then◌else◌, List, []}
use Rattle.std.specs.Prelude.{map, filter, fold, slice_get, option_and_then, Option, Some, None}
use Rattle.std.specs.List.{list_any}
use Rattle.ground_types.specs.Truth.{Table, body_holds, expr_holds}
use Rattle.ground_types.specs.Members.{contains}
use Rattle.ground_types.specs.Inertia.{value_at}
use Rattle.ground_types.specs.declared.entries.Occ.{Occ}
use Rattle.ground_types.specs.declared.program.Rule.{Rule}
use Rattle.ground_types.specs.declared.program.Expr.{Expr}
use Rattle.ground_types.specs.declared.program.UnitKind.{UnitKind}
use Rattle.ground_types.specs.declared.program.UnitKind.TheVariants.{Simple, Static, Derived}
use Rattle.ground_types.specs.declared.program.Unit.{Unit}
use Rattle.ground_types.specs.declared.program.Program.{Program}

-- the values of the rules whose body is true at the point
abbrev pub values_of : Table → List Rule → ℕ → List ℕ
values_of table rules t = map (λ rule. rule.value) (filter (λ rule. body_holds table rule t) rules)

-- *Simple fluent* of a unit, over a table of what its rules name
abbrev pub value_of_unit : Table → Option ℕ → UnitKind → ℕ → ℕ → Option ℕ
value_of_unit table opening (Simple initially initiate terminate) w t =
    value_at opening (values_of table initiate) (values_of table terminate) w t
value_of_unit table opening (Static exprs) w t = None
value_of_unit table opening (Derived rules) w t = None

-- the expression, if there is one, is true
abbrev pub option_holds : Table → Option Expr → ℕ → Bool
option_holds table None t = false
option_holds table (Some expr) t = expr_holds table expr t

-- a static fluent-value holds where the expression of one of its instances is true
abbrev pub static_of_unit : Table → UnitKind → ℕ → ℕ → Bool
static_of_unit table (Simple initially initiate terminate) v t = false
static_of_unit table (Static exprs) v t = option_holds table (slice_get exprs v) t
static_of_unit table (Derived rules) v t = false

-- a derived event occurs where the body of one of its instances is true
abbrev pub derived_of_unit : Table → UnitKind → ℕ → Bool
derived_of_unit table (Simple initially initiate terminate) t = false
derived_of_unit table (Static exprs) t = false
derived_of_unit table (Derived rules) t = list_any (λ rule. body_holds table rule t) rules

-- the kind of a unit; a number that is no unit is an event that never occurs
abbrev pub kind_or_idle : Option Unit → UnitKind
kind_or_idle None = Derived []
kind_or_idle (Some unit) = unit.kind

abbrev pub kind_of : Program → ℕ → UnitKind
kind_of program unit = kind_or_idle (slice_get program.units unit)

-- the table with the units of one more layer
abbrev pub with_layer : Program → (ℕ → Option ℕ) → ℕ → Table → List ℕ → Table
with_layer program opening w table layer = record {
  occurs = table.occurs;
  derived = λ unit t. if contains layer unit then derived_of_unit table (kind_of program unit) t
      else table.derived unit t;
  value = λ unit t. if contains layer unit then value_of_unit table (opening unit)
      (kind_of program unit) w t else table.value unit t;
  static = λ unit v t. if contains layer unit then static_of_unit table (kind_of program unit) v t
      else table.static unit v t;
}

-- the table of input events alone
abbrev pub inputs_only : (ℕ → ℕ → Bool) → Table
inputs_only occurs = record {
  occurs = occurs;
  derived = λ unit t. false;
  value = λ unit t. None;
  static = λ unit v t. false;
}

-- the table of all units, from where the input events occur and the value with which each unit
-- opens after w
abbrev pub all_layers : Program → (ℕ → Option ℕ) → (ℕ → ℕ → Bool) → ℕ → Table
all_layers program opening occurs w = fold (with_layer program opening w) (inputs_only occurs)
    program.layers

-- *Recognition*: input events occur at the event points of the window (w, q] at which they are said
-- to, and all else follows
abbrev pub recognition : Program → (ℕ → Option ℕ) → (ℕ → ℕ → Bool) → ℕ → ℕ → Table
recognition program opening occurs w q = all_layers program opening (λ event t. nat_lt w t
    && nat_le t q && occurs event t) w

-- a list of occurrences has an event at a point
abbrev pub is_among : List Occ → ℕ → ℕ → Bool
is_among events event t = list_any (λ occ. (occ.event == event) && (occ.at == t)) events

-- the opening value of a unit, from a list with one for each
abbrev pub listed : List (Option ℕ) → ℕ → Option ℕ
listed values unit = option_and_then (λ v. v) (slice_get values unit)
