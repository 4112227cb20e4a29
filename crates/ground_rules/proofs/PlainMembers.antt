-- The members of a union as plain data.
use Rattle.std.proofs.Common.{◌≡◌, map, refl, ap, ◌∙◌}
use Rattle.std.specs.Global.{Vec}
use Rattle.ground_types.specs.declared.program.Expr.{Expr, Union, Union', Intersect', Complement'}
use Rattle.ground_types.specs.declared.program.Expr.{Row_of-Expr, end_of-Expr, more_of-Expr}
use Rattle.ground_types.specs.declared.program.Expr.{items-the_row-Expr}
use Rattle.ground_types.specs.declared.program.Expr.{items_hidden-the_row-Expr-0}
use Rattle.ground_rules.specs.Atoms.{Union_is, and_more, plain_expr, plain_exprs, all_of}

plain_row : (n : _) (row : Row_of-Expr n) → plain_exprs row
    ≡ all_of (map plain_expr (items-the_row-Expr n row))
plain_row n end_of-Expr = refl
plain_row n (more_of-Expr member rest) = ap (and_more (plain_expr member)) (plain_row _ rest)

abbrev row_of : Expr → (n : _) × Row_of-Expr n
row_of (Union' _ row) = (_, row)
row_of (Intersect' _ row) = (_, row)
row_of (Complement' _ first _ row) = (_, row)
row_of _ = (_, end_of-Expr)

pub plain_union : (v : Vec Expr) → plain_expr (Union v) ≡ Union_is (all_of (map plain_expr v.items))
plain_union v = let row = row_of (Union v) in ap Union_is (plain_row row.0 row.1
    ∙ ap (λ es. all_of (map plain_expr es)) (items_hidden-the_row-Expr-0 v))
