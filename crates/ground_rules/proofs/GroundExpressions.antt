-- Expressions that fit, on the plain expressions.
use Rattle.std.proofs.Common.{◌≡◌, ℕ, ◌+◌, Bool, true, false, not, ◌&&◌, ◌==◌, List, [], ◌∷◌}
use Rattle.std.proofs.Common.{slice_get, refl, ap, ap₂, arith}
use Rattle.std.proofs.lemmas.Bool.{and_from}
use Rattle.std.proofs.lemmas.Bool.Decides.{nat_tests}
use Rattle.ground_types.specs.Sound.{is_fluent_value, member_count, expr_fits, members_fit}
use Rattle.ground_types.specs.Sound.{is_union}
use Rattle.ground_types.specs.declared.program.Expr.{Expr, Row, Union', Intersect', Complement'}
use Rattle.ground_types.specs.declared.program.Expr.{Row_of-Expr, end_of-Expr, more_of-Expr}
use Rattle.ground_types.specs.declared.program.Program.{Program}
use Rattle.rule_forms.specs.Sound.{AllOf}
use Rattle.ground_rules.specs.Atoms.{GroundExpression, GroundExpressions, Row_is, Union_is}
use Rattle.ground_rules.specs.Atoms.{Intersect_is, Complement_is, no_more, and_more, plain_expr}
use Rattle.ground_rules.specs.Atoms.{plain_exprs, all_of}

abbrev pub count_of : GroundExpressions → ℕ
count_of no_more = 0
count_of (and_more e es) = 1 + count_of es

abbrev mutual
  pub ground_fits : Program → GroundExpression → Bool
  ground_fits program (Row_is unit v) = is_fluent_value program (slice_get program.units unit) v
  ground_fits program (Union_is es) = all_fit program es
  ground_fits program (Intersect_is es) = not (count_of es == 0) && all_fit program es
  ground_fits program (Complement_is e es) = ground_fits program e && all_fit program es

  pub all_fit : Program → GroundExpressions → Bool
  all_fit program no_more = true
  all_fit program (and_more e es) = ground_fits program e && all_fit program es

abbrev pub is_union_of : GroundExpression → Bool
is_union_of (Union_is es) = true
is_union_of e = false

count_same : {m : _} (members : Row_of-Expr m) → member_count members
    ≡ count_of (plain_exprs members)
count_same end_of-Expr = refl
count_same (more_of-Expr member rest) = ap (λ n. 1 + n) (count_same rest)

mutual
  pub expr_same : (program : Program) (e : Expr) → expr_fits program e ≡ ground_fits program
      (plain_expr e)
  expr_same program (Row unit v) = refl
  expr_same program (Union' shape members) = members_same program members
  expr_same program (Intersect' shape members) = ap₂ (λ n b. not (n == 0) && b)
      (count_same members) (members_same program members)
  expr_same program (Complement' p first shape others) = ap₂ ◌&&◌ (expr_same program first)
      (members_same program others)

  pub members_same : (program : Program) {m : _} (members : Row_of-Expr m)
      → members_fit program members ≡ all_fit program (plain_exprs members)
  members_same program end_of-Expr = refl
  members_same program (more_of-Expr member rest) = ap₂ ◌&&◌ (expr_same program member)
      (members_same program rest)

pub union_same : (e : Expr) → is_union e ≡ is_union_of (plain_expr e)
union_same (Row unit v) = refl
union_same (Union' shape members) = refl
union_same (Intersect' shape members) = refl
union_same (Complement' p first shape others) = refl

pub some_count : (n : ℕ) → not (1 + n == 0) ≡ true
some_count n = grind (arith, nat_tests)

pub all_of_fit : (program : Program) (es : List GroundExpression)
    → AllOf (λ e. ground_fits program e ≡ true) es → all_fit program (all_of es) ≡ true
all_of_fit program [] all = refl
all_of_fit program (e ∷ es) all = and_from (ground_fits program e) (all_fit program (all_of es))
    all.0
    (all_of_fit program es all.1)
