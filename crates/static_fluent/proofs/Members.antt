-- Expressions by the lists of their members.
use Rattle.std.proofs.Common.{◌≡◌, ℕ, ◌+◌, ◌<◌, ◌≤◌, nat_lt, zero, suc, arith, Bool, true, not}
use Rattle.std.proofs.Common.{◌&&◌, ◌||◌, ◌==◌, List, [], ◌∷◌, get_or, map, length, refl, sym, ap}
use Rattle.std.proofs.Common.{ap₂, ◌∙◌}
use Rattle.std.proofs.lemmas.Bool.Decides.{nat_tests}
use Rattle.std.proofs.lemmas.List.Folds.{list_all-append, list_all-map}
use Rattle.std.specs.List.{list_any, list_all}
use Rattle.std.specs.Global.{Vec}
use Rattle.std.specs.Cmp.Derive.{both_true}
use Rattle.std.proofs.lemmas.Bool.{and_parts}
use Rattle.ground_types.specs.Truth.{Table, expr_holds, some_holds, each_holds}
use Rattle.ground_types.specs.Meaning.{units_of_expr, units_of_members}
use Rattle.ground_types.specs.Sound.{member_count}
use Rattle.ground_types.specs.declared.program.Expr as expr
use Rattle.static_fluent.specs.Constructs.{has_members, all_have_members, has_rows}

-- ---- lists that agree, item by item

any_mapped : {X Z : Type 0} (p : Z → Bool) (f : X → Z) (xs : List X) → list_any (λ x. p (f x)) xs
    ≡ list_any p (map f xs)
any_mapped p f [] = refl
any_mapped p f (x ∷ xs) = ap (λ b. p (f x) || b) (any_mapped p f xs)

pub same_any : {X Y Z : Type 0} (p : Z → Bool) (f : X → Z) (g : Y → Z) (xs : List X) (ys : List Y)
    → map f xs ≡ map g ys → list_any (λ x. p (f x)) xs ≡ list_any (λ y. p (g y)) ys
same_any p f g xs ys same = any_mapped p f xs ∙ ap (list_any p) same ∙ sym (any_mapped p g ys)

pub same_all : {X Y Z : Type 0} (p : Z → Bool) (f : X → Z) (g : Y → Z) (xs : List X) (ys : List Y)
    → map f xs ≡ map g ys → list_all (λ x. p (f x)) xs ≡ list_all (λ y. p (g y)) ys
same_all p f g xs ys same = sym (list_all-map p f xs) ∙ ap (list_all p) same ∙ list_all-map p g ys

-- ---- the members of an expression

abbrev row_of : expr.Expr → (n : _) × expr.Row_of-Expr n
row_of (expr.Union' _ row) = (_, row)
row_of (expr.Intersect' _ row) = (_, row)
row_of (expr.Complement' _ first _ row) = (_, row)
row_of _ = (_, expr.end_of-Expr)

module _ (table : Table) (t : ℕ) where
  some_in_row : (n : _) (row : expr.Row_of-Expr n) → some_holds table row t
      ≡ list_any (λ e. expr_holds table e t) (expr.items-the_row-Expr n row)
  some_in_row n expr.end_of-Expr = refl
  some_in_row n (expr.more_of-Expr member rest) = ap (λ b. expr_holds table member t || b)
      (some_in_row _ rest)

  each_in_row : (n : _) (row : expr.Row_of-Expr n) → each_holds table row t
      ≡ list_all (λ e. expr_holds table e t) (expr.items-the_row-Expr n row)
  each_in_row n expr.end_of-Expr = refl
  each_in_row n (expr.more_of-Expr member rest) = ap (λ b. expr_holds table member t && b)
      (each_in_row _ rest)

  pub union_holds : (v : Vec expr.Expr) → expr_holds table (expr.Union v) t
      ≡ list_any (λ e. expr_holds table e t) v.items
  union_holds v = let row = row_of (expr.Union v) in some_in_row row.0 row.1
      ∙ ap (list_any (λ e. expr_holds table e t)) (expr.items_hidden-the_row-Expr-0 v)

  pub intersect_holds : (v : Vec expr.Expr) → expr_holds table (expr.Intersect v) t
      ≡ list_all (λ e. expr_holds table e t) v.items
  intersect_holds v = let row = row_of (expr.Intersect v) in each_in_row row.0 row.1
      ∙ ap (list_all (λ e. expr_holds table e t)) (expr.items_hidden-the_row-Expr-0 v)

  pub complement_holds : (b : _) (v : Vec expr.Expr) → expr_holds table (expr.Complement b v) t
      ≡ (expr_holds table b.value t && not (list_any (λ e. expr_holds table e t) v.items))
  complement_holds b v = ap (λ others. expr_holds table b.value t && not others) (union_holds v)

-- ---- what members need

module _ (p : ℕ → Bool) where
  units_in_row : (n : _) (row : expr.Row_of-Expr n) → list_all p (units_of_members row)
      ≡ list_all (λ e. list_all p (units_of_expr e)) (expr.items-the_row-Expr n row)
  units_in_row n expr.end_of-Expr = refl
  units_in_row n (expr.more_of-Expr member rest) =
      list_all-append p (units_of_expr member) (units_of_members rest)
      ∙ ap (λ b. list_all p (units_of_expr member) && b) (units_in_row _ rest)

  pub union_units : (v : Vec expr.Expr) → list_all p (units_of_expr (expr.Union v))
      ≡ list_all (λ e. list_all p (units_of_expr e)) v.items
  union_units v = let row = row_of (expr.Union v) in units_in_row row.0 row.1
      ∙ ap (list_all (λ e. list_all p (units_of_expr e))) (expr.items_hidden-the_row-Expr-0 v)

  pub complement_units : (b : _) (v : Vec expr.Expr) →
      list_all p (units_of_expr (expr.Complement b v)) ≡ (list_all p (units_of_expr b.value)
      && list_all (λ e. list_all p (units_of_expr e)) v.items)
  complement_units b v =
      list_all-append p (units_of_expr b.value) (units_of_expr (expr.Union v))
      ∙ ap (λ others. list_all p (units_of_expr b.value) && others) (union_units v)

members_in_row : (n : _) (row : expr.Row_of-Expr n) → all_have_members row ≡ list_all has_members
    (expr.items-the_row-Expr n row)
members_in_row n expr.end_of-Expr = refl
members_in_row n (expr.more_of-Expr member rest) = ap (λ b. has_members member && b)
    (members_in_row _ rest)

count_in_row : (n : _) (row : expr.Row_of-Expr n) → member_count row
    ≡ length (expr.items-the_row-Expr n row)
count_in_row n expr.end_of-Expr = refl
count_in_row n (expr.more_of-Expr member rest) = omega (arith, count_in_row _ rest)

pub union_members : (v : Vec expr.Expr) → has_members (expr.Union v) ≡ list_all has_members v.items
union_members v = let row = row_of (expr.Union v) in members_in_row row.0 row.1
    ∙ ap (list_all has_members) (expr.items_hidden-the_row-Expr-0 v)

pub intersect_members : (v : Vec expr.Expr) → has_members (expr.Intersect v)
    ≡ (not (length v.items == 0) && list_all has_members v.items)
intersect_members v =
    let row = row_of (expr.Intersect v) in
    ap₂ (λ k b. not (k == 0) && b) (count_in_row row.0 row.1
    ∙ ap length (expr.items_hidden-the_row-Expr-0 v)) (union_members v)

counted : (n : ℕ) → 0 < n → not (n == 0) ≡ true
counted zero some = absurd (omega arith)
counted (suc n) some = grind (arith, nat_tests)

pub intersect_has : (v : Vec expr.Expr) → 0 < length v.items → list_all has_members v.items ≡ true
    → has_members (expr.Intersect v) ≡ true
intersect_has v some all = intersect_members v ∙ both_true (counted (length v.items) some) all

pub complement_members : (b : _) (v : Vec expr.Expr) → has_members (expr.Complement b v)
    ≡ (has_members b.value && list_all has_members v.items)
complement_members b v = ap (λ others. has_members b.value && others) (union_members v)

-- what an expression needs, its members need

some : (n : ℕ) → not (n == 0) ≡ true → 0 < n
some zero is = cc
some (suc n) is = omega arith

pub union_needs : (n : ℕ) (v : Vec expr.Expr) → has_rows n (expr.Union v) ≡ true
    → has_members (expr.Union v) ≡ true →
    (list_all (has_rows n) v.items ≡ true) × (list_all has_members v.items ≡ true)
union_needs n v rows members = (
  sym (union_units (λ unit. nat_lt unit n) v)
      ∙ rows,
  sym (union_members v) ∙ members,
)

pub intersect_needs : (n : ℕ) (v : Vec expr.Expr) → has_rows n (expr.Intersect v) ≡ true
    → has_members (expr.Intersect v) ≡ true →
    (list_all (has_rows n) v.items ≡ true) × (list_all has_members v.items ≡ true)
intersect_needs n v rows members = (
  sym (union_units (λ unit. nat_lt unit n) v) ∙ rows,
  (and_parts (not (length v.items == 0)) (list_all has_members v.items) (sym (intersect_members v)
      ∙ members)).1,
)

pub intersect_some : (v : Vec expr.Expr) → has_members (expr.Intersect v) ≡ true
    → 0 < length v.items
intersect_some v members = some (length v.items) (and_parts (not (length v.items == 0))
    (list_all has_members v.items) (sym (intersect_members v) ∙ members)).0

pub first_needs : (n : ℕ) (b : _) (v : Vec expr.Expr) → has_rows n (expr.Complement b v) ≡ true
    → has_members (expr.Complement b v) ≡ true →
    (has_rows n b.value ≡ true) × (has_members b.value ≡ true)
first_needs n b v rows members = (
  (and_parts (has_rows n b.value) (list_all (has_rows n) v.items)
      (sym (complement_units (λ unit. nat_lt unit n) b v) ∙ rows)).0,
  (and_parts (has_members b.value) (list_all has_members v.items) (sym (complement_members b v)
      ∙ members)).0,
)

pub others_need : (n : ℕ) (b : _) (v : Vec expr.Expr) → has_rows n (expr.Complement b v) ≡ true
    → has_members (expr.Complement b v) ≡ true →
    (list_all (has_rows n) v.items ≡ true) × (list_all has_members v.items ≡ true)
others_need n b v rows members = (
  (and_parts (has_rows n b.value) (list_all (has_rows n) v.items)
      (sym (complement_units (λ unit. nat_lt unit n) b v) ∙ rows)).1,
  (and_parts (has_members b.value) (list_all has_members v.items) (sym (complement_members b v)
      ∙ members)).1,
)

pub each_needs : (p : expr.Expr → Bool) (es : List expr.Expr) (i : ℕ) (d : expr.Expr)
    → i < length es → list_all p es ≡ true → p (get_or es i d) ≡ true
each_needs p [] i d within all = absurd (omega arith)
each_needs p (e ∷ es) zero d within all = (and_parts (p e) (list_all p es) all).0
each_needs p (e ∷ es) (suc i) d within all = each_needs p es i d (omega arith)
    (and_parts (p e) (list_all p es) all).1

-- ---- how many constructs and rows an expression has

abbrev mutual
  pub weight : expr.Expr → ℕ
  weight (expr.Row unit v) = 1
  weight (expr.Union' shape members) = weights members + 1
  weight (expr.Intersect' shape members) = weights members + 1
  weight (expr.Complement' p first shape others) = weight first + weights others + 1

  weights : {m : _} → expr.Row_of-Expr m → ℕ
  weights expr.end_of-Expr = 0
  weights (expr.more_of-Expr member rest) = weight member + weights rest

abbrev pub total : List expr.Expr → ℕ
total [] = 0
total (e ∷ es) = weight e + total es

weights_in_row : (n : _) (row : expr.Row_of-Expr n)
    → weights row ≡ total (expr.items-the_row-Expr n row)
weights_in_row n expr.end_of-Expr = refl
weights_in_row n (expr.more_of-Expr member rest) = ap (λ k. weight member + k)
    (weights_in_row _ rest)

pub union_weight : (v : Vec expr.Expr) → weight (expr.Union v) ≡ total v.items + 1
union_weight v = let row = row_of (expr.Union v) in ap (λ k. k + 1) (weights_in_row row.0 row.1
    ∙ ap total (expr.items_hidden-the_row-Expr-0 v))

pub intersect_weight : (v : Vec expr.Expr) → weight (expr.Intersect v) ≡ total v.items + 1
intersect_weight v = union_weight v

pub complement_weight : (b : _) (v : Vec expr.Expr) → weight (expr.Complement b v) ≡ weight b.value
    + total v.items + 1
complement_weight b v =
    let row = row_of (expr.Union v) in ap (λ k. weight b.value + k + 1) (weights_in_row row.0 row.1
    ∙ ap total (expr.items_hidden-the_row-Expr-0 v))

pub one_weight : (es : List expr.Expr) (i : ℕ) (d : expr.Expr) → i < length es
    → weight (get_or es i d) ≤ total es
one_weight [] i d within = absurd (omega arith)
one_weight (e ∷ es) zero d within = omega arith
one_weight (e ∷ es) (suc i) d within = omega (arith, one_weight es i d (omega arith))
