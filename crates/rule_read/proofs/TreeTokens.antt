-- The tokens of an expression by those of its members.
use Rattle.std.proofs.Common.{◌≡◌, List, [], ◌∷◌, ◌++◌, map, refl, ap, sym, ◌∙◌, append_assoc}
use Rattle.std.specs.Global.{Vec, Box}
use Rattle.rule_forms.specs.declared.form.Tree.{Tree, Union, Union', Intersect, Intersect'}
use Rattle.rule_forms.specs.declared.form.Tree.{Complement, Complement', Row_of-Tree, end_of-Tree}
use Rattle.rule_forms.specs.declared.form.Tree.{more_of-Tree, items-the_row-Tree}
use Rattle.rule_forms.specs.declared.form.Tree.{items_hidden-the_row-Tree-0}
use Rattle.rule_read.specs.declared.keyword.Keyword.TheVariants as key
use Rattle.rule_read.specs.declared.token.Mark.TheVariants.{Comma, Open, Close}
use Rattle.rule_read.specs.Tokens.{Token, Sign}
use Rattle.rule_forms.specs.Forms.{plain_row}
use Rattle.rule_read.specs.FormTokens.{row_tokens, keyword, in_parentheses, in_brackets}
use Rattle.rule_read.specs.Printed.{tree_tokens}

row_is : (n : _) (row : Row_of-Tree n) → row_tokens (plain_row row) ≡ map tree_tokens
    (items-the_row-Tree n row)
row_is n end_of-Tree = refl
row_is n (more_of-Tree tree rest) = ap (λ (rows : List (List Token)). tree_tokens tree ∷ rows)
    (row_is _ rest)

abbrev row_of : Tree → (n : _) × Row_of-Tree n
row_of (Union' _ row) = (_, row)
row_of (Intersect' _ row) = (_, row)
row_of (Complement' _ first _ row) = (_, row)
row_of _ = (_, end_of-Tree)

members_are : (v : Vec Tree) → row_tokens (plain_row (row_of (Union v)).1) ≡ map tree_tokens v.items
members_are v = let row = row_of (Union v) in row_is row.0 row.1
    ∙ ap (map tree_tokens) (items_hidden-the_row-Tree-0 v)

pub union_tokens : (v : Vec Tree) → tree_tokens (Union v) ≡ keyword key.UnionAll ∷ in_parentheses
    (in_brackets (map tree_tokens v.items))
union_tokens v = ap (λ (rows : List (List Token)). keyword key.UnionAll ∷ in_parentheses
    (in_brackets rows)) (members_are v)

pub intersect_tokens : (v : Vec Tree) → tree_tokens (Intersect v) ≡ keyword key.IntersectAll
    ∷ in_parentheses (in_brackets (map tree_tokens v.items))
intersect_tokens v = ap (λ (rows : List (List Token)). keyword key.IntersectAll ∷ in_parentheses
    (in_brackets rows)) (members_are v)

pub complement_tokens : (b : _) (v : Vec Tree) → tree_tokens (Complement b v)
    ≡ keyword key.RelativeComplementAll ∷ in_parentheses (tree_tokens b.value
    ++ (Sign Comma ∷ in_brackets (map tree_tokens v.items)))
complement_tokens b v = ap (λ (rows : List (List Token)). keyword key.RelativeComplementAll
    ∷ in_parentheses (tree_tokens b.value ++ (Sign Comma ∷ in_brackets rows))) (members_are v)

-- what is put for a complement, step by step
pub put_complement : (b : Box Tree) (v : Vec Tree) (t0 t1 t2 t3 t4 t5 t6 : List Token)
    → t1 ≡ t0 ++ keyword key.RelativeComplementAll ∷ [] → t2 ≡ t1 ++ Sign Open ∷ []
    → t3 ≡ t2 ++ tree_tokens b.value → t4 ≡ t3 ++ Sign Comma ∷ []
    → t5 ≡ t4 ++ in_brackets (map tree_tokens v.items) → t6 ≡ t5 ++ Sign Close ∷ []
    → t6 ≡ t0 ++ tree_tokens (Complement b v)
put_complement b v t0 t1 t2 t3 t4 t5 t6 e1 e2 e3 e4 e5 e6 =
    let e : t6 ≡ t0 ++ (keyword key.RelativeComplementAll ∷ in_parentheses (tree_tokens b.value
    ++ (Sign Comma ∷ in_brackets (map tree_tokens v.items)))) =
    in_order (keyword key.RelativeComplementAll) (Sign Open) (Sign Comma) (Sign Close)
    (tree_tokens b.value) (in_brackets (map tree_tokens v.items)) t0 t1 t2 t3 t4 t5 t6 e1 e2 e3
    e4 e5 e6 in
    e ∙ ap (λ (t : List Token). t0 ++ t) (sym (complement_tokens b v))
  where
    in_order : (k o m l : Token) (x y t0 t1 t2 t3 t4 t5 t6 : List Token) → t1 ≡ t0 ++ k ∷ []
        → t2 ≡ t1 ++ o ∷ [] → t3 ≡ t2 ++ x → t4 ≡ t3 ++ m ∷ [] → t5 ≡ t4 ++ y → t6 ≡ t5 ++ l ∷ []
        → t6 ≡ t0 ++ (k ∷ o ∷ ((x ++ (m ∷ y)) ++ l ∷ []))
    in_order k o m l x y t0 t1 t2 t3 t4 t5 t6 e1 e2 e3 e4 e5 e6 =
        let a2 : t2 ≡ t0 ++ (k ∷ o ∷ []) = e2 ∙ ap (λ (t : List Token). t ++ o ∷ []) e1
        ∙ append_assoc t0 (k ∷ []) (o ∷ []) in
        let a3 : t3 ≡ t0 ++ (k ∷ o ∷ x) = e3 ∙ ap (λ (t : List Token). t ++ x) a2
        ∙ append_assoc t0 (k ∷ o ∷ []) x in
        let a4 : t4 ≡ t0 ++ (k ∷ o ∷ (x ++ m ∷ [])) = e4 ∙ ap (λ (t : List Token). t ++ m ∷ []) a3
        ∙ append_assoc t0 (k ∷ o ∷ x) (m ∷ []) in
        let a5 : t5 ≡ t0 ++ (k ∷ o ∷ (x ++ (m ∷ y))) = e5 ∙ ap (λ (t : List Token). t ++ y) a4
        ∙ append_assoc t0 (k ∷ o ∷ (x ++ m ∷ [])) y ∙ ap (λ (t : List Token). t0 ++ (k ∷ o ∷ t))
        (append_assoc x (m ∷ []) y) in
        e6 ∙ ap (λ (t : List Token). t ++ l ∷ []) a5 ∙ append_assoc t0 (k ∷ o ∷ (x ++ (m ∷ y)))
        (l ∷ [])
