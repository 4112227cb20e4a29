-- Where every row lies within a window, so does every expression over them.
use Rattle.std.proofs.Common.{◌≡◌, ℕ, ◌<◌, ◌≤◌, ◌+◌, true, not, ◌==◌, inl}
use Rattle.std.proofs.Common.{inr, List, slice_get}
use Rattle.std.proofs.lemmas.Bool.{and_parts, or_cases}
use Rattle.ground_types.specs.Truth.{expr_holds, some_holds, each_holds}
use Rattle.ground_types.specs.Sound.{member_count}
use Rattle.ground_types.specs.declared.program.Expr.{Expr, Row, Union', Intersect', Complement'}
use Rattle.ground_types.specs.declared.program.Expr.{Row_of-Expr, end_of-Expr, more_of-Expr}
use Rattle.layer_cache.specs.Told.{told, fluent_has}
use Rattle.span_algebra.specs.declared.rows.UnitRows.{UnitRows}
use Rattle.static_fluent.specs.Constructs.{has_members, all_have_members}

module _ (rows : List UnitRows) (w q : ℕ) (inside : (unit v t : ℕ)
    → fluent_has (slice_get rows unit) v t ≡ true → (w < t) × (t ≤ q + 1)) where
  mutual
    pub expr_inside : (expr : Expr) → has_members expr ≡ true → (t : ℕ)
        → expr_holds (told rows) expr t ≡ true → (w < t) × (t ≤ q + 1)
    expr_inside (Row unit v) has t is = inside unit v t is
    expr_inside (Union' shape members) has t is = some_inside members has t is
    expr_inside (Intersect' shape members) has t is =
        each_inside members (and_parts (not (member_count members == 0)) (all_have_members members)
        has).0 (and_parts (not (member_count members == 0)) (all_have_members members) has).1 t
        is
    expr_inside (Complement' p first shape others) has t is =
        expr_inside first (and_parts (has_members first) (all_have_members others) has).0 t
        (and_parts (expr_holds (told rows) first t) (not (some_holds (told rows) others t)) is).0

    some_inside : {m : _} (members : Row_of-Expr m) → all_have_members members ≡ true → (t : ℕ)
        → some_holds (told rows) members t ≡ true → (w < t) × (t ≤ q + 1)
    some_inside end_of-Expr has t is = cc
    some_inside (more_of-Expr member rest) has t is =
        elim (or_cases (expr_holds (told rows) member t) (some_holds (told rows) rest t) is) [
          | inl here ↦ expr_inside member (and_parts (has_members member) (all_have_members rest)
              has).0 t
              here
          | inr later ↦ some_inside rest (and_parts (has_members member) (all_have_members rest)
              has).1 t
              later
        ]

    each_inside : {m : _} (members : Row_of-Expr m) → not (member_count members == 0) ≡ true
        → all_have_members members ≡ true → (t : ℕ) → each_holds (told rows) members t ≡ true →
        (w < t) × (t ≤ q + 1)
    each_inside end_of-Expr some has t is = cc
    each_inside (more_of-Expr member rest) some has t is =
        expr_inside member (and_parts (has_members member) (all_have_members rest) has).0 t
        (and_parts (expr_holds (told rows) member t) (each_holds (told rows) rest t) is).0
