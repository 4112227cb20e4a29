-- Expressions one inside another.
use Rattle.std.proofs.Common.{◌≡◌, ℕ, zero, suc, ◌-◌, ◌<◌, List, map, refl, arith, ap, ◌∙◌}
use Rattle.std.specs.Global.{Vec}
use Rattle.rule_forms.specs.declared.form.Tree.{Tree, Union, Union', Intersect, Intersect'}
use Rattle.rule_forms.specs.declared.form.Tree.{Complement, Complement', Row_of-Tree, end_of-Tree}
use Rattle.rule_forms.specs.declared.form.Tree.{more_of-Tree, items-the_row-Tree}
use Rattle.rule_forms.specs.declared.form.Tree.{items_hidden-the_row-Tree-0}
use Rattle.rule_forms.specs.Forms.{plain_tree, plain_row, more, Union_of, Intersect_of}
use Rattle.rule_forms.specs.Forms.{Complement_of, expressions}

row_is : (n : _) (row : Row_of-Tree n) → plain_row row
    ≡ expressions (map plain_tree (items-the_row-Tree n row))
row_is n end_of-Tree = refl
row_is n (more_of-Tree tree rest) = ap (more (plain_tree tree)) (row_is _ rest)

abbrev pub row_of : Tree → (n : _) × Row_of-Tree n
row_of (Union' _ row) = (_, row)
row_of (Intersect' _ row) = (_, row)
row_of (Complement' _ first _ row) = (_, row)
row_of _ = (_, end_of-Tree)

members_are : (v : Vec Tree) → plain_row (row_of (Union v)).1 ≡ expressions (map plain_tree v.items)
members_are v = let row = row_of (Union v) in row_is row.0 row.1
    ∙ ap (λ ts. expressions (map plain_tree ts)) (items_hidden-the_row-Tree-0 v)

pub plain_union : (v : Vec Tree) → plain_tree (Union v)
    ≡ Union_of (expressions (map plain_tree v.items))
plain_union v = ap Union_of (members_are v)

pub plain_intersect : (v : Vec Tree) → plain_tree (Intersect v)
    ≡ Intersect_of (expressions (map plain_tree v.items))
plain_intersect v = ap Intersect_of (members_are v)

pub plain_complement : (b : _) (v : Vec Tree)
    → plain_tree (Complement b v) ≡ Complement_of (plain_tree b.value)
    (expressions (map plain_tree v.items))
plain_complement b v = ap (Complement_of (plain_tree b.value)) (members_are v)
