-- Expressions whose members say the same say the same.
use Rattle.std.proofs.Common.{◌≡◌, map, ap, sym, ◌∙◌}
use Rattle.std.specs.Global.{Vec, Box}
use Rattle.rule_forms.specs.declared.form.Tree.{Tree, Union, Intersect, Complement}
use Rattle.rule_forms.specs.Forms.{Union_of, Intersect_of, Complement_of, plain_tree, expressions}
use Rattle.rule_forms.proofs.Trees.{plain_union, plain_intersect, plain_complement}

pub same_union : (v w : Vec Tree) → map plain_tree v.items ≡ map plain_tree w.items
    → plain_tree (Union v) ≡ plain_tree (Union w)
same_union v w e = plain_union v ∙ ap (λ es. Union_of (expressions es)) e ∙ sym (plain_union w)

pub same_intersect : (v w : Vec Tree) → map plain_tree v.items ≡ map plain_tree w.items
    → plain_tree (Intersect v) ≡ plain_tree (Intersect w)
same_intersect v w e = plain_intersect v ∙ ap (λ es. Intersect_of (expressions es)) e
    ∙ sym (plain_intersect w)

pub same_complement : (b d : Box Tree) (v w : Vec Tree) → plain_tree b.value ≡ plain_tree d.value
    → map plain_tree v.items ≡ map plain_tree w.items
    → plain_tree (Complement b v) ≡ plain_tree (Complement d w)
same_complement b d v w f e =
    plain_complement b v
    ∙ ap (λ first. Complement_of first (expressions (map plain_tree v.items))) f
    ∙ ap (λ es. Complement_of (plain_tree d.value) (expressions es)) e
    ∙ sym (plain_complement d w)
