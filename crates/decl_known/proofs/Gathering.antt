-- The atoms of conditions and expressions, one after the other.
use Rattle.std.proofs.Common.{◌≡◌, ℕ, ◌+◌, ◌<◌, List, [], ◌∷◌, ◌++◌, length, get_or, take, flat_map}
use Rattle.std.proofs.Common.{filter_map, Option, Some, None, refl, ap, ap₂, sym, ◌∙◌, append-nil}
use Rattle.std.proofs.Common.{arith, suc}
use Rattle.std.proofs.lemmas.List.{append_assoc, take_more}
use Rattle.std.proofs.lemmas.List.Elements.{filter_map-append}
use Rattle.std.specs.List.{cons_option}
use Rattle.std.specs.Option.{option_to_list}
use Rattle.std.specs.Global.{Vec}
use Rattle.rule_forms.specs.declared.form.Tree.{Tree, Union, Intersect, Complement, Row_of-Tree}
use Rattle.rule_forms.specs.declared.form.Tree.{end_of-Tree, more_of-Tree, items-the_row-Tree}
use Rattle.rule_forms.specs.declared.form.Tree.{items_hidden-the_row-Tree-0}
use Rattle.rule_forms.specs.Forms.{plain_tree, plain_row}
use Rattle.rule_forms.proofs.Trees.{row_of}
use Rattle.decl_known.specs.Mentions.{Mention, leaves, leaves_of_all}

abbrev pub tree_leaves : Tree → List Mention
tree_leaves tree = leaves (plain_tree tree)

row_leaves : (n : _) (row : Row_of-Tree n) → leaves_of_all (plain_row row) ≡ flat_map tree_leaves
    (items-the_row-Tree n row)
row_leaves n end_of-Tree = refl
row_leaves n (more_of-Tree tree rest) = ap (λ ms. leaves (plain_tree tree) ++ ms)
    (row_leaves _ rest)

members_leaves : (v : Vec Tree) → leaves_of_all (plain_row (row_of (Union v)).1)
    ≡ flat_map tree_leaves v.items
members_leaves v = let row = row_of (Union v) in row_leaves row.0 row.1 ∙ ap (flat_map tree_leaves)
    (items_hidden-the_row-Tree-0 v)

pub union_leaves : (v : Vec Tree) → leaves (plain_tree (Union v)) ≡ flat_map tree_leaves v.items
union_leaves v = members_leaves v

pub intersect_leaves : (v : Vec Tree) → leaves (plain_tree (Intersect v)) ≡ flat_map tree_leaves
    v.items
intersect_leaves v = members_leaves v

pub complement_leaves : (b : _) (v : Vec Tree) → leaves (plain_tree (Complement b v))
    ≡ leaves (plain_tree b.value) ++ flat_map tree_leaves v.items
complement_leaves b v = ap (λ ms. leaves (plain_tree b.value) ++ ms) (members_leaves v)

-- ---- a list that takes what some items of another give

kept_one : {Y : Type 0} (o : Option Y) → cons_option o [] ≡ option_to_list o
kept_one None = refl
kept_one (Some y) = refl

module _ {X Y : Type 0} (h : X → Option Y) (xs : List X) where
  pub one_more_kept : (i n : ℕ) (x : X) (before old now : List Y) → (i < length xs)
      × (x ≡ get_or xs i x) → n ≡ i + 1 → now ≡ old ++ option_to_list (h x)
      → old ≡ before ++ filter_map h (take i xs) → now ≡ before ++ filter_map h (take n xs)
  one_more_kept i n x before old now at more put held =
      put ∙ ap (λ l. l ++ option_to_list (h x)) held ∙ append_assoc before _ _
      ∙ ap (λ l. before ++ l)
      (ap (λ l. filter_map h (take i xs) ++ l) (sym (kept_one (h x)))
      ∙ sym (filter_map-append h (take i xs) (x ∷ []))
      ∙ ap (λ w. filter_map h (take i xs ++ w ∷ [])) at.1
      ∙ ap (filter_map h) (sym (take_more xs i x at.0))
      ∙ ap (λ k. filter_map h (take k xs)) (sym more))

-- ---- a list to which what a function gives is added

module _ {X Y : Type 0} (h : X → Option Y) (xs : List X) (i : ℕ) (x : X) (within : i < length xs)
    (at : x ≡ get_or xs i x) where
  -- what a function gives of the members up to the next
  pub filter_map-more : filter_map h (take (i + 1) xs) ≡ filter_map h (take i xs) ++ cons_option
      (h x) []
  filter_map-more =
      ap (filter_map h) (take_more xs i x within ∙ ap (λ y. take i xs ++ y ∷ []) (sym at))
      ∙ filter_map-append h (take i xs) (x ∷ [])

module _ {Y : Type 0} (all before : List Y) (o given : Option Y) (more : all ≡ before
    ++ cons_option o []) (by : given ≡ o) (held : List Y) (same : held ≡ before) where
  -- it was added
  pub grown : (y : Y) (now : List Y) → given ≡ Some y → now ≡ held ++ y ∷ [] → now ≡ all
  grown y now some put = put ∙ ap₂ (λ l o. l ++ cons_option o []) same (sym some ∙ by) ∙ sym more

  -- there was nothing to add
  pub kept : given ≡ None → held ≡ all
  kept none = same ∙ sym (append-nil before) ∙ ap (λ o. before ++ cons_option o []) (sym none ∙ by)
      ∙ sym more

pub option_length : {X : Type 0} (o : Option X) (xs : List X) → length (cons_option o xs)
    ≡ length (cons_option o []) + length xs
option_length None xs = omega arith
option_length (Some x) xs = omega arith
