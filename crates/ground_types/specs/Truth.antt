-- Public contracts speak by this: *Truth at a point*, what is true at one point, read off a table.
use Rattle.std.specs.Prelude.{ℕ, ◌+◌, Bool, true, false, not, ◌&&◌, ◌||◌, ◌==◌, if◌then◌else◌}
use Rattle.std.specs.Prelude.{Option, Some, None}
use Rattle.std.specs.List.{list_all}
use Rattle.ground_types.specs.declared.program.Trigger.{Trigger}
use Rattle.ground_types.specs.declared.program.Trigger.TheVariants.{Event, Derived, Start, End}
use Rattle.ground_types.specs.declared.program.What.{What}
use Rattle.ground_types.specs.declared.program.What.TheVariants.{Happens, Holds}
use Rattle.ground_types.specs.declared.program.Cond.{Cond}
use Rattle.ground_types.specs.declared.program.Rule.{Rule}
use Rattle.ground_types.specs.declared.program.Expr.{Expr, Row, Union', Intersect', Complement'}
use Rattle.ground_types.specs.declared.program.Expr.{Row_of-Expr, end_of-Expr, more_of-Expr}

-- What is known of a window: by event or unit, then by value where there are several, then by
-- point. Events are read at the window's event points alone, fluents at its value points; what a
-- table says of other points means nothing.
pub record Table : Type 0 where
  -- an input event occurs
  pub occurs : ℕ → ℕ → Bool
  -- a derived event occurs
  pub derived : ℕ → ℕ → Bool
  -- the value of a simple fluent
  pub value : ℕ → ℕ → Option ℕ
  -- a static fluent has a value
  pub static : ℕ → ℕ → ℕ → Bool

-- the option is this value
abbrev pub is_value : Option ℕ → ℕ → Bool
is_value None v = false
is_value (Some u) v = u == v

-- holdsAt(F=V)
abbrev pub holds : Table → ℕ → ℕ → ℕ → Bool
holds table unit v t = is_value (table.value unit t) v || table.static unit v t

-- happensAt(e). A start is where the value holds at the next point and not at this one, an end the
-- contrary.
abbrev pub happens : Table → Trigger → ℕ → Bool
happens table (Event e) t = table.occurs e t
happens table (Derived unit) t = table.derived unit t
happens table (Start unit v) t = not (holds table unit v t) && holds table unit v (t + 1)
happens table (End unit v) t = holds table unit v t && not (holds table unit v (t + 1))

-- what a condition asks for is so
abbrev pub is_so : Table → What → ℕ → Bool
is_so table (Happens trigger) t = happens table trigger t
is_so table (Holds unit v) t = holds table unit v t

-- a condition is true: what it asks for is so, or with `not` is not so
abbrev pub condition_holds : Table → Cond → ℕ → Bool
condition_holds table cond t = if cond.positive then is_so table cond.what t
    else not (is_so table cond.what t)

-- a body is true: its trigger and all its further conditions are
abbrev pub body_holds : Table → Rule → ℕ → Bool
body_holds table rule t = happens table rule.trigger t && list_all (λ cond. condition_holds table
    cond t) rule.conds

-- An expression over intervals, read at one point: union_all is or, intersect_all is and,
-- relative_complement_all is "the first and none of the others".
abbrev mutual
  pub expr_holds : Table → Expr → ℕ → Bool
  expr_holds table (Row unit v) t = holds table unit v t
  expr_holds table (Union' shape members) t = some_holds table members t
  expr_holds table (Intersect' shape members) t = each_holds table members t
  expr_holds table (Complement' p first shape others) t = expr_holds table first t
      && not (some_holds table others t)

  pub some_holds : Table → {m : _} → Row_of-Expr m → ℕ → Bool
  some_holds table end_of-Expr t = false
  some_holds table (more_of-Expr member rest) t = expr_holds table member t || some_holds table
      rest t

  pub each_holds : Table → {m : _} → Row_of-Expr m → ℕ → Bool
  each_holds table end_of-Expr t = true
  each_holds table (more_of-Expr member rest) t = expr_holds table member t && each_holds table
      rest t
