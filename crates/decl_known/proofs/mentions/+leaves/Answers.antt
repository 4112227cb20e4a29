use Rattle.std.proofs.lemmas.List.{append_assoc}
use Rattle.decl_known.proofs.Gathering.{union_leaves, intersect_leaves, complement_leaves}
use Rattle.decl_known.proofs.mentions.+leaves.Goals as goal

pub add_leaves-returns-in-Union : goal.add_leaves-returns-in-Union
add_leaves-returns-in-Union t c = rw (c.in-Union.is, union_leaves, ← c.deref.ensures.value)
    c.add_all_leaves.ensures

pub add_leaves-returns-in-Intersect : goal.add_leaves-returns-in-Intersect
add_leaves-returns-in-Intersect t c = rw (
  c.in-Intersect.is,
  intersect_leaves,
  ← c.deref-in-Intersect.ensures.value,
) c.add_all_leaves-in-Intersect.ensures

pub add_leaves-returns-in_ok-add_leaves-in-Complement :
    goal.add_leaves-returns-in_ok-add_leaves-in-Complement
add_leaves-returns-in_ok-add_leaves-in-Complement t c =
    rw (
      c.in-Complement.is,
      complement_leaves,
      ← c.deref-in-Complement-2.ensures.value,
      ← append_assoc,
      ← c.deref-in-Complement.ensures,
      ← c.in_ok-add_leaves-in-Complement.ensures,
    )
    c.add_all_leaves-in-Complement.ensures
