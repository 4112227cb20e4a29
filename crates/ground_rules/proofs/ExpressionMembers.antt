-- Expressions, and what they are under an assignment, by the list of their members.
use Rattle.std.proofs.Common.{◌≡◌, List, [], ◌∷◌, map, refl, sym, ap, ◌∙◌}
use Rattle.std.specs.Global.{Vec}
use Rattle.ground_types.specs.declared.program.Expr as expr
use Rattle.rule_forms.specs.declared.form.Tree as tree
use Rattle.rule_forms.specs.Forms.{plain_tree, expressions}
use Rattle.rule_forms.proofs.Trees.{plain_union, plain_intersect, plain_complement}
use Rattle.ground_rules.specs.Assignments.{Instance}
use Rattle.ground_rules.specs.Atoms.{GroundExpression, Union_is, Intersect_is, Complement_is}
use Rattle.ground_rules.specs.Atoms.{and_more, plain_expr, plain_exprs, ground_expression}
use Rattle.ground_rules.specs.Atoms.{ground_expressions, all_of}

-- ---- expressions

exprs_of_row : (n : _) (row : expr.Row_of-Expr n) → plain_exprs row
    ≡ all_of (map plain_expr (expr.items-the_row-Expr n row))
exprs_of_row n expr.end_of-Expr = refl
exprs_of_row n (expr.more_of-Expr member rest) = ap (λ es. and_more (plain_expr member) es)
    (exprs_of_row _ rest)

abbrev expr_row : expr.Expr → (n : _) × expr.Row_of-Expr n
expr_row (expr.Union' _ row) = (_, row)
expr_row (expr.Intersect' _ row) = (_, row)
expr_row (expr.Complement' _ first _ row) = (_, row)
expr_row _ = (_, expr.end_of-Expr)

exprs_of_members : (v : Vec expr.Expr) → plain_exprs (expr_row (expr.Union v)).1
    ≡ all_of (map plain_expr v.items)
exprs_of_members v = let row = expr_row (expr.Union v) in exprs_of_row row.0 row.1
    ∙ ap (λ es. all_of (map plain_expr es)) (expr.items_hidden-the_row-Expr-0 v)

union_is : (v : Vec expr.Expr) → plain_expr (expr.Union v)
    ≡ Union_is (all_of (map plain_expr v.items))
union_is v = ap Union_is (exprs_of_members v)

intersect_of : (v : Vec expr.Expr) → plain_expr (expr.Intersect v)
    ≡ Intersect_is (all_of (map plain_expr v.items))
intersect_of v = ap Intersect_is (exprs_of_members v)

pub complement_of : (b : _) (v : Vec expr.Expr) → plain_expr (expr.Complement b v)
    ≡ Complement_is (plain_expr b.value) (all_of (map plain_expr v.items))
complement_of b v = ap (Complement_is (plain_expr b.value)) (exprs_of_members v)

-- ---- expressions under an assignment

module _ (i : Instance) where
  abbrev pub ground_tree : tree.Tree → GroundExpression
  ground_tree t = ground_expression i (plain_tree t)

  ground_members : (trees : List tree.Tree) → ground_expressions i
      (expressions (map plain_tree trees)) ≡ all_of (map ground_tree trees)
  ground_members [] = refl
  ground_members (t ∷ trees) = ap (and_more (ground_tree t)) (ground_members trees)

  ground_union : (v : Vec tree.Tree) → ground_tree (tree.Union v)
      ≡ Union_is (all_of (map ground_tree v.items))
  ground_union v = ap (ground_expression i) (plain_union v)
      ∙ ap Union_is (ground_members v.items)

  ground_intersect : (v : Vec tree.Tree) → ground_tree (tree.Intersect v)
      ≡ Intersect_is (all_of (map ground_tree v.items))
  ground_intersect v = ap (ground_expression i) (plain_intersect v)
      ∙ ap Intersect_is (ground_members v.items)

  pub ground_complement : (b : _) (v : Vec tree.Tree) → ground_tree (tree.Complement b v)
      ≡ Complement_is (ground_tree b.value) (all_of (map ground_tree v.items))
  ground_complement b v = ap (ground_expression i) (plain_complement b v)
      ∙ ap (Complement_is (ground_tree b.value)) (ground_members v.items)

  -- ---- expressions whose members are what they are under the assignment

  pub union_same : (v : Vec expr.Expr) (w : Vec tree.Tree) → map plain_expr v.items
      ≡ map ground_tree w.items → plain_expr (expr.Union v) ≡ ground_tree (tree.Union w)
  union_same v w same = union_is v ∙ ap (λ es. Union_is (all_of es)) same ∙ sym (ground_union w)

  pub intersect_same : (v : Vec expr.Expr) (w : Vec tree.Tree) → map plain_expr v.items
      ≡ map ground_tree w.items → plain_expr (expr.Intersect v) ≡ ground_tree (tree.Intersect w)
  intersect_same v w same = intersect_of v ∙ ap (λ es. Intersect_is (all_of es)) same
      ∙ sym (ground_intersect w)
