-- Public contracts speak by this: what an expression needs.
use Rattle.std.specs.Prelude.{ℕ, nat_lt, Bool, true, not, ◌&&◌, ◌==◌}
use Rattle.std.specs.List.{list_all}
use Rattle.ground_types.specs.Meaning.{units_of_expr}
use Rattle.ground_types.specs.Sound.{member_count}
use Rattle.ground_types.specs.declared.program.Expr.{Expr, Row, Union', Intersect', Complement'}
use Rattle.ground_types.specs.declared.program.Expr.{Row_of-Expr, end_of-Expr, more_of-Expr}

-- the units that an expression names are among so many
abbrev pub has_rows : ℕ → Expr → Bool
has_rows count expr = list_all (λ unit. nat_lt unit count) (units_of_expr expr)

-- each intersection of an expression, however deep, has a member
abbrev mutual
  pub has_members : Expr → Bool
  has_members (Row unit v) = true
  has_members (Union' shape members) = all_have_members members
  has_members (Intersect' shape members) = not (member_count members == 0) && all_have_members
      members
  has_members (Complement' p first shape others) = has_members first && all_have_members others

  pub all_have_members : {m : _} → Row_of-Expr m → Bool
  all_have_members end_of-Expr = true
  all_have_members (more_of-Expr member rest) = has_members member && all_have_members rest
