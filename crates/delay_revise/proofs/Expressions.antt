-- Expressions over the rows of units that are worked are true where they are in query 0.
use Rattle.std.proofs.Common.{◌≡◌, ℕ, zero, suc, ◌+◌, ◌<◌, ◌≤◌, Bool, true, not, ◌&&◌, ◌||◌, ◌==◌}
use Rattle.std.proofs.Common.{List, [], ◌∷◌, flat_map, slice_get, refl, ap₂}
use Rattle.std.specs.List.{list_all}
use Rattle.std.proofs.lemmas.Bool.{and_parts}
use Rattle.ground_types.specs.Meaning.{units_of_expr, units_of_members}
use Rattle.ground_types.specs.Members.{contains}
use Rattle.ground_types.specs.Publication.{query_table}
use Rattle.ground_types.specs.Recognition.{option_holds}
use Rattle.ground_types.specs.Sound.{IsSound, member_count, expr_fits, members_fit}
use Rattle.ground_types.specs.Truth.{expr_holds, some_holds, each_holds}
use Rattle.ground_types.specs.Windows.{left, right}
use Rattle.ground_types.specs.declared.entries.Entry.{Entry}
use Rattle.ground_types.specs.declared.program.Expr.{Expr, Row, Union', Intersect', Complement'}
use Rattle.ground_types.specs.declared.program.Expr.{Row_of-Expr, end_of-Expr, more_of-Expr}
use Rattle.ground_types.specs.declared.program.Program.{Program}
use Rattle.event_store.specs.Standing.{Events}
use Rattle.layer_cache.specs.Told.{told}
use Rattle.point_rule.specs.Known.{known}
use Rattle.span_algebra.specs.declared.rows.UnitRows.{UnitRows}
use Rattle.delay_revise.specs.Published.{OccurIn, HaveRowsOf}
use Rattle.delay_revise.proofs.EachItem.{all_left, all_right}
use Rattle.delay_revise.proofs.LookUp.{value_found, occurs_of}

-- input events do not matter to expressions
module _ (rows : List UnitRows) (store : Events) (t : ℕ) where
  mutual
    pub expr_told : (expr : Expr) → expr_holds (told rows) expr t ≡ expr_holds (known rows store)
        expr t
    expr_told (Row unit v) = refl
    expr_told (Union' shape members) = (members_told members).0
    expr_told (Intersect' shape members) = (members_told members).1
    expr_told (Complement' p first shape others) = ap₂ (λ (a b : Bool). a && not b)
        (expr_told first) (members_told others).0

    members_told : {m : _} (members : Row_of-Expr m)
        → (some_holds (told rows) members t ≡ some_holds (known rows store) members t)
        × (each_holds (told rows) members t ≡ each_holds (known rows store) members t)
    members_told end_of-Expr = (refl, refl)
    members_told (more_of-Expr member rest) =
        let here = expr_told member in
        let later = members_told rest in
        (ap₂ (λ (a b : Bool). a || b) here later.0, ap₂ (λ (a b : Bool). a && b) here later.1)

module _ (program : Program) (history : List Entry) (k : ℕ) (store : Events) (below : List ℕ)
    (rows : List UnitRows)
    (sound : IsSound program) (events : OccurIn program history k (occurs_of store))
    (have : HaveRowsOf program history k below rows)
    (t : ℕ) (above : left program.plan k < t) (within : t ≤ right program.plan k + 1) where
  mutual
    expr_found : (expr : Expr) → expr_fits program expr ≡ true
        → list_all (contains below) (units_of_expr expr) ≡ true →
        expr_holds (known rows store) expr t ≡ expr_holds (query_table program history k) expr t
    expr_found (Row unit v) fits done =
        value_found program history k (occurs_of store) below rows sound events have unit v t fits
        (and_parts (contains below unit) true done).0 above within
    expr_found (Union' shape members) fits done = (members_found members fits done).0
    expr_found (Intersect' shape members) fits done =
        (members_found members (and_parts (not (member_count members == 0))
        (members_fit program members) fits).1 done).1
    expr_found (Complement' p first shape others) fits done =
        ap₂ (λ (a b : Bool). a && not b)
        (expr_found first (and_parts (expr_fits program first) (members_fit program others) fits).0
        (all_left (contains below) (units_of_expr first) (units_of_members others) done))
        (members_found others (and_parts (expr_fits program first) (members_fit program others)
        fits).1
        (all_right (contains below) (units_of_expr first) (units_of_members others) done)).0

    members_found : {m : _} (members : Row_of-Expr m) → members_fit program members ≡ true
        → list_all (contains below) (units_of_members members) ≡ true →
        (some_holds (known rows store) members t ≡ some_holds (query_table program history k)
        members t)
        × (each_holds (known rows store) members t ≡ each_holds (query_table program history k)
        members t)
    members_found end_of-Expr fits done = (refl, refl)
    members_found (more_of-Expr member rest) fits done =
        let fit = and_parts (expr_fits program member) (members_fit program rest) fits in
        let here = expr_found member fit.0
        (all_left (contains below) (units_of_expr member) (units_of_members rest) done) in
        let later = members_found rest fit.1
        (all_right (contains below) (units_of_expr member) (units_of_members rest) done) in
        (ap₂ (λ (a b : Bool). a || b) here later.0, ap₂ (λ (a b : Bool). a && b) here later.1)

  -- the expression of a value, if there is one, is true at a value point where it is so over the
  -- rows
  pub option_found : (exprs : List Expr) (v : ℕ) → list_all (expr_fits program) exprs ≡ true
      → list_all (contains below) (flat_map units_of_expr exprs) ≡ true →
      option_holds (known rows store) (slice_get exprs v) t
      ≡ option_holds (query_table program history k) (slice_get exprs v) t
  option_found [] v fit done = refl
  option_found (expr ∷ rest) zero fit done =
      expr_found expr (and_parts (expr_fits program expr) (list_all (expr_fits program) rest) fit).0
      (all_left (contains below) (units_of_expr expr) (flat_map units_of_expr rest) done)
  option_found (expr ∷ rest) (suc v) fit done =
      option_found rest v (and_parts (expr_fits program expr) (list_all (expr_fits program) rest)
      fit).1
      (all_right (contains below) (units_of_expr expr) (flat_map units_of_expr rest) done)
