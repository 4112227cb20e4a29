-- Public contracts speak by this: the definitions of truth, fluents and events said of one table,
-- with no layer in them. A program whose layers are in order has exactly one such table. It is said
-- of all points; those outside the window follow from the same rules and are never read.
use Rattle.std.specs.Prelude.{◌≡◌, ℕ, ◌<◌, nat_lt, Bool, true, not, ◌&&◌, List, [], ◌∷◌, ◌++◌}
use Rattle.std.specs.Prelude.{flat_map, length, Option}
use Rattle.std.specs.List.{list_all}
use Rattle.ground_types.specs.Truth.{Table}
use Rattle.ground_types.specs.Members.{contains}
use Rattle.ground_types.specs.Recognition.{kind_of, value_of_unit, static_of_unit, derived_of_unit}
use Rattle.ground_types.specs.declared.program.Trigger.{Trigger}
use Rattle.ground_types.specs.declared.program.Trigger.TheVariants.{Event, Derived, Start, End}
use Rattle.ground_types.specs.declared.program.What.{What}
use Rattle.ground_types.specs.declared.program.What.TheVariants.{Happens, Holds}
use Rattle.ground_types.specs.declared.program.Rule.{Rule}
use Rattle.ground_types.specs.declared.program.Expr.{Expr, Row, Union', Intersect', Complement'}
use Rattle.ground_types.specs.declared.program.Expr.{Row_of-Expr, end_of-Expr, more_of-Expr}
use Rattle.ground_types.specs.declared.program.UnitKind.{UnitKind}
use Rattle.ground_types.specs.declared.program.UnitKind.TheVariants as kind
use Rattle.ground_types.specs.declared.program.Program.{Program}

abbrev pub units_of_trigger : Trigger → List ℕ
units_of_trigger (Event event) = []
units_of_trigger (Derived unit) = unit ∷ []
units_of_trigger (Start unit v) = unit ∷ []
units_of_trigger (End unit v) = unit ∷ []

abbrev pub units_of_what : What → List ℕ
units_of_what (Happens trigger) = units_of_trigger trigger
units_of_what (Holds unit v) = unit ∷ []

abbrev pub units_of_rule : Rule → List ℕ
units_of_rule rule = units_of_trigger rule.trigger ++ flat_map (λ cond. units_of_what cond.what)
    rule.conds

abbrev mutual
  pub units_of_expr : Expr → List ℕ
  units_of_expr (Row unit v) = unit ∷ []
  units_of_expr (Union' shape members) = units_of_members members
  units_of_expr (Intersect' shape members) = units_of_members members
  units_of_expr (Complement' p first shape others) = units_of_expr first ++ units_of_members others

  pub units_of_members : {m : _} → Row_of-Expr m → List ℕ
  units_of_members end_of-Expr = []
  units_of_members (more_of-Expr member rest) = units_of_expr member ++ units_of_members rest

-- the units that the rules or expressions of a unit name
abbrev pub units_of_kind : UnitKind → List ℕ
units_of_kind (kind.Simple initially initiate terminate) = flat_map units_of_rule initiate
    ++ flat_map units_of_rule terminate
units_of_kind (kind.Static exprs) = flat_map units_of_expr exprs
units_of_kind (kind.Derived rules) = flat_map units_of_rule rules

-- each unit of a layer is one of the program, stands in no layer before and once in this one, and
-- names units of layers before only
abbrev pub is_layer : Program → List ℕ → List ℕ → Bool
is_layer program below [] = true
is_layer program below (unit ∷ rest) =
    nat_lt unit (length program.units) && not (contains below unit) && not (contains rest unit)
    && list_all (contains below) (units_of_kind (kind_of program unit)) && is_layer program below
    rest

abbrev pub are_layers : Program → List ℕ → List (List ℕ) → Bool
are_layers program below [] = true
are_layers program below (layer ∷ rest) = is_layer program below layer && are_layers program
    (below ++ layer) rest

-- the layers are in order, and each unit stands in one
pub record IsLayered (program : Program) : Type 0 where
  pub order : are_layers program [] program.layers ≡ true
  pub all : (unit : ℕ) → unit < length program.units
      → contains (flat_map (λ layer. layer) program.layers) unit ≡ true

-- a table in which everything is as the definitions say, from where the input events occur and the
-- value with which each unit opens after w
pub record IsMeaning (program : Program) (opening : ℕ → Option ℕ) (occurs : ℕ → ℕ → Bool) (w : ℕ)
    (table : Table) : Type 0 where
  pub input_events : (event t : ℕ) → table.occurs event t ≡ occurs event t
  pub derived_events : (unit t : ℕ) → table.derived unit t ≡ derived_of_unit table
      (kind_of program unit) t
  pub simple_fluents : (unit t : ℕ) → table.value unit t ≡ value_of_unit table (opening unit)
      (kind_of program unit) w t
  pub static_fluents : (unit v t : ℕ) → table.static unit v t ≡ static_of_unit table
      (kind_of program unit) v t

-- two tables say the same of everything
pub record SaysTheSame (one two : Table) : Type 0 where
  pub input_events : (event t : ℕ) → one.occurs event t ≡ two.occurs event t
  pub derived_events : (unit t : ℕ) → one.derived unit t ≡ two.derived unit t
  pub simple_fluents : (unit t : ℕ) → one.value unit t ≡ two.value unit t
  pub static_fluents : (unit v t : ℕ) → one.static unit v t ≡ two.static unit v t
