-- The units that plain units name.
use Rattle.std.proofs.Common.{◌≡◌, ℕ, List, [], ◌∷◌, ◌++◌, map, flat_map, slice_get, option_map}
use Rattle.std.proofs.Common.{Option, Some, None, refl, sym, ap, ap₂, ◌∙◌}
use Rattle.std.proofs.lemmas.Option.{slice_get-map, same_Some}
use Rattle.ground_types.specs.Meaning.{units_of_rule, units_of_expr, units_of_members}
use Rattle.ground_types.specs.Meaning.{units_of_kind}
use Rattle.ground_types.specs.Recognition.{kind_or_idle, kind_of}
use Rattle.ground_types.specs.declared.program.Expr.{Expr, Row, Union', Intersect', Complement'}
use Rattle.ground_types.specs.declared.program.Expr.{Row_of-Expr, end_of-Expr, more_of-Expr}
use Rattle.ground_types.specs.declared.program.Unit.{Unit}
use Rattle.ground_types.specs.declared.program.UnitKind.{UnitKind}
use Rattle.ground_types.specs.declared.program.UnitKind.TheVariants as unit_kind
use Rattle.ground_types.specs.declared.program.Program.{Program}
use Rattle.ground_rules.specs.Atoms.{GroundExpression, GroundExpressions, Row_is, Union_is}
use Rattle.ground_rules.specs.Atoms.{Intersect_is, Complement_is, no_more, and_more, plain_expr}
use Rattle.ground_rules.specs.Atoms.{plain_exprs}
use Rattle.ground_rules.specs.Grounded.{PlainKind, Simple_is, Static_is, Derived_is, plain_kind}
use Rattle.ground_rules.specs.Grounded.{PlainUnit, plain_unit}

abbrev mutual
  pub units_in : GroundExpression → List ℕ
  units_in (Row_is unit v) = unit ∷ []
  units_in (Union_is es) = units_in_all es
  units_in (Intersect_is es) = units_in_all es
  units_in (Complement_is e es) = units_in e ++ units_in_all es

  pub units_in_all : GroundExpressions → List ℕ
  units_in_all no_more = []
  units_in_all (and_more e es) = units_in e ++ units_in_all es

-- the units that the rules or expressions of a plain unit name
abbrev pub units_in_kind : PlainKind → List ℕ
units_in_kind (Simple_is initially initiate terminate) = flat_map units_of_rule initiate
    ++ flat_map units_of_rule terminate
units_in_kind (Static_is exprs) = flat_map units_in exprs
units_in_kind (Derived_is rules) = flat_map units_of_rule rules

mutual
  same_in : (expr : Expr) → units_of_expr expr ≡ units_in (plain_expr expr)
  same_in (Row unit v) = refl
  same_in (Union' shape members) = same_in_all members
  same_in (Intersect' shape members) = same_in_all members
  same_in (Complement' p first shape others) = ap₂ ◌++◌ (same_in first) (same_in_all others)

  same_in_all : {m : _} (members : Row_of-Expr m) → units_of_members members
      ≡ units_in_all (plain_exprs members)
  same_in_all end_of-Expr = refl
  same_in_all (more_of-Expr member rest) = ap₂ ◌++◌ (same_in member) (same_in_all rest)

same_in_list : (exprs : List Expr) → flat_map units_of_expr exprs ≡ flat_map units_in
    (map plain_expr exprs)
same_in_list [] = refl
same_in_list (expr ∷ exprs) = ap₂ ◌++◌ (same_in expr) (same_in_list exprs)

pub same_in_kind : (kind : UnitKind) → units_of_kind kind ≡ units_in_kind (plain_kind kind)
same_in_kind (unit_kind.Simple initially initiate terminate) = refl
same_in_kind (unit_kind.Static exprs) = same_in_list exprs
same_in_kind (unit_kind.Derived rules) = refl

-- a unit of a program names what its plain unit names
pub named_by_plain : (program : Program) (unit : ℕ) (is : PlainUnit)
    → slice_get (map plain_unit program.units) unit ≡ Some is
    → units_of_kind (kind_of program unit) ≡ units_in_kind is.kind
named_by_plain program unit is at = by (slice_get program.units unit)
    (sym (slice_get-map plain_unit program.units unit) ∙ at)
  where
    by : (o : Option Unit) → option_map plain_unit o ≡ Some is → units_of_kind (kind_or_idle o)
        ≡ units_in_kind is.kind
    by None e = absurd (cc)
    by (Some u) e = same_in_kind u.kind ∙ ap (λ (p : PlainUnit). units_in_kind p.kind)
        (same_Some (plain_unit u) is e)
