-- What expressions say under an assignment, by the list of their members.
use Rattle.std.proofs.Common.{◌≡◌, List, [], ◌∷◌, map, refl, sym, ap, ◌∙◌}
use Rattle.std.specs.Global.{Vec, Box}
use Rattle.rule_forms.specs.declared.form.Tree.{Tree, Union, Intersect, Complement}
use Rattle.rule_forms.specs.Forms.{Expression, more, Union_of, Intersect_of, Complement_of}
use Rattle.rule_forms.specs.Forms.{plain_tree, expressions}
use Rattle.rule_forms.proofs.Trees.{plain_union, plain_intersect, plain_complement}
use Rattle.ground_rules.specs.Assignments.{Instance}
use Rattle.ground_rules.specs.Stated.{stated_expression, stated_expressions}

module _ (i : Instance) where
  abbrev pub stated_of : Tree → Expression
  stated_of tree = stated_expression i (plain_tree tree)

  members_stated : (trees : List Tree) → expressions (map stated_of trees) ≡ stated_expressions i
      (expressions (map plain_tree trees))
  members_stated [] = refl
  members_stated (tree ∷ trees) = ap (more (stated_of tree)) (members_stated trees)

  pub union_stated : (v w : Vec Tree) → map plain_tree v.items ≡ map stated_of w.items
      → plain_tree (Union v) ≡ stated_of (Union w)
  union_stated v w same =
      plain_union v
      ∙ ap (λ es. Union_of (expressions es)) same
      ∙ ap Union_of (members_stated w.items)
      ∙ ap (stated_expression i) (sym (plain_union w))

  pub intersect_stated : (v w : Vec Tree) → map plain_tree v.items ≡ map stated_of w.items
      → plain_tree (Intersect v) ≡ stated_of (Intersect w)
  intersect_stated v w same =
      plain_intersect v
      ∙ ap (λ es. Intersect_of (expressions es)) same
      ∙ ap Intersect_of (members_stated w.items)
      ∙ ap (stated_expression i) (sym (plain_intersect w))

  pub complement_stated : (first : Tree) (others : Vec Tree) (d : Box Tree) (w : Vec Tree)
      → plain_tree first ≡ stated_of d.value → map plain_tree others.items ≡ map stated_of w.items
      → Complement_of (plain_tree first) (expressions (map plain_tree others.items))
      ≡ stated_of (Complement d w)
  complement_stated first others d w same_first same =
      ap (λ e. Complement_of e (expressions (map plain_tree others.items))) same_first
      ∙ ap (λ es. Complement_of (stated_of d.value) (expressions es)) same
      ∙ ap (Complement_of (stated_of d.value)) (members_stated w.items)
      ∙ ap (stated_expression i) (sym (plain_complement d w))
