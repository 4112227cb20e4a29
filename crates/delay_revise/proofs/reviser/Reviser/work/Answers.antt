use Rattle.std.proofs.Common.{◌≡◌, ◌<◌, ◌∙◌, ℕ, true, List, length, Some, slice_get}
use Rattle.std.proofs.Common.{refl, sym, ap, subst, arith}
use Rattle.std.specs.Arc.{arc_value}
use Rattle.std.proofs.lemmas.Option.{slice_get_read}
use Rattle.ground_types.specs.Members.{contains}
use Rattle.ground_types.specs.Sound.{unit_values, kind_fits}
use Rattle.ground_types.specs.Touched.{rules_of}
use Rattle.ground_types.specs.Windows.{left, right}
use Rattle.ground_types.specs.declared.program.Program.{Program}
use Rattle.ground_types.specs.declared.program.Unit.{Unit}
use Rattle.rt_base.specs.Counted.{Counted}
use Rattle.simple_fluent.specs.Rows.{IsValueBelow}
use Rattle.delay_revise.specs.Going.{end_before}
use Rattle.delay_revise.specs.Revising.{Revising, IsWorkOf, open_units, number_of}
use Rattle.delay_revise.specs.Revising.{trigger_points_of_unit}
use Rattle.delay_revise.specs.Working.{IsInWindow, triggers_of}
use Rattle.point_rule.specs.Known.{known}
use Rattle.delay_revise.proofs.Naming.{unit_read}
use Rattle.delay_revise.proofs.UnitWork.{open_known, opening_there, fits_here, inside_here}
use Rattle.delay_revise.proofs.UnitWork.{named_here, old_named_here, opens_here, few_here, work_by}
use Rattle.delay_revise.proofs.UnitWork.{triggers_by, if_ok_both, on_ok_more, either_way}
use Rattle.delay_revise.proofs.reviser.Reviser.work.Given.{Over}
use Rattle.delay_revise.proofs.reviser.Reviser.work.Goals.{After-end_before-before, After-as_slice}
use Rattle.delay_revise.proofs.reviser.Reviser.work.Goals.{After-deref-3}
use Rattle.delay_revise.proofs.reviser.Reviser.work.Goals as goal

pub index-opening-requires : goal.index-opening-requires
index-opening-requires g c =
    omega (
      arith,
      open_known _ _ c.args.unit c.self.invariant
          (subst (λ (r : Revising). contains (open_units r) c.args.unit ≡ true)
          (sym c.self.view_is) c.requires.unit),
      opening_there _ _ c.self.invariant
          (subst (λ (r : Revising). r.applied ≡ true) (sym c.self.view_is) c.requires.applied),
      c.self.inside.opening.ok.0,
    )

pub bounds-as_slice-unit : goal.bounds-as_slice-unit
bounds-as_slice-unit g c =
    subst (λ (n : ℕ). c.args.unit < n)
    (sym (ap (λ (l : List Unit). length l) (c.as_slice.ensures
    ∙ ap (λ (p : Program). p.units) c.deref-2.ensures)))
    (open_known _ _ c.args.unit c.self.invariant
    (subst (λ (r : Revising). contains (open_units r) c.args.unit ≡ true)
    (sym c.self.view_is) c.requires.unit))

-- what is known of the unit that is read, and of its opening value
record IsRead (g : Over) (c : After-deref-3 g) : Type 0 where
  chunk : c.self.inside.has_chunk ≡ true
  applied : c.self.inside.applied ≡ true
  unit : slice_get (arc_value c.self.inside.program).units c.args.unit
      ≡ Some c.index-as_slice-unit.result
  opening : slice_get c.self.inside.opening.items c.args.unit ≡ Some c.index-opening.result.now

is_read : (g : Over) (c : After-deref-3 g) → IsRead g c
is_read g c =
    let within = open_known _ _ c.args.unit c.self.invariant
    (subst (λ (r : Revising). contains (open_units r) c.args.unit ≡ true)
    (sym c.self.view_is) c.requires.unit) in
    let done = subst (λ (r : Revising). r.applied ≡ true) (sym c.self.view_is)
    c.requires.applied in
    record {
      chunk = subst (λ (r : Revising). r.has_chunk ≡ true) (sym c.self.view_is) c.requires.chunk;
      applied = done;
      unit = unit_read (arc_value c.self.inside.program) c.as_slice.result.now c.args.unit
          c.index-as_slice-unit.result (c.as_slice.ensures ∙ ap (λ (p : Program). p.units)
          c.deref-2.ensures) within c.index-as_slice-unit.is;
      opening = slice_get_read c.self.inside.opening.items (length c.self.inside.opening.items)
          c.args.unit c.index-opening.result.now refl
          (omega (arith, within, opening_there _ _ c.self.invariant done))
          c.index-opening.ensures;
    }

from : (g : Over) (c : After-deref-3 g) → c.left-w.result
    ≡ left (arc_value c.self.inside.program).plan c.self.inside.number
from g c = c.left-w.ensures ∙ ap (λ (p : Program). left p.plan c.self.inside.number) c.deref.ensures

until : (g : Over) (c : After-deref-3 g) → c.right-q.result
    ≡ right (arc_value c.self.inside.program).plan c.self.inside.number
until g c = c.right-q.ensures ∙ ap (λ (p : Program). right p.plan c.self.inside.number)
    c.deref.ensures

pub work_unit-worked-requires-clause-fits : goal.work_unit-worked-requires-clause-fits
work_unit-worked-requires-clause-fits g c =
    let at = goal.at.work_unit-worked-requires-clause-fits g c in
    let here = is_read g at.After-deref-3 in
    subst (λ (p : Program). kind_fits p (unit_values p c.index-as_slice-unit.result)
    c.index-as_slice-unit.result.kind ≡ true) (sym c.deref-3.ensures)
    (fits_here _ _ c.self.invariant here.chunk here.applied c.args.unit
    c.index-as_slice-unit.result
    (subst (λ (r : Revising). contains (open_units r) c.args.unit ≡ true) (sym c.self.view_is)
    c.requires.unit) here.unit)

pub work_unit-worked-requires-clause-inside : goal.work_unit-worked-requires-clause-inside
work_unit-worked-requires-clause-inside g c =
    let at = goal.at.work_unit-worked-requires-clause-inside g c in
    let here = is_read g at.After-deref-3 in
    subst (λ (w : ℕ). IsInWindow w c.right-q.result c.self.inside.cache.rows)
    (sym (from g at.After-deref-3))
    (subst (λ (q : ℕ). IsInWindow (left (arc_value c.self.inside.program).plan
    c.self.inside.number) q c.self.inside.cache.rows) (sym (until g at.After-deref-3))
    (inside_here _ _ c.self.invariant here.chunk here.applied c.args.unit
    c.index-as_slice-unit.result
    (subst (λ (r : Revising). contains (open_units r) c.args.unit ≡ true) (sym c.self.view_is)
    c.requires.unit) here.unit))

pub work_unit-worked-requires-clause-rows : goal.work_unit-worked-requires-clause-rows
work_unit-worked-requires-clause-rows g c =
    let here = is_read g (goal.at.work_unit-worked-requires-clause-rows g c).After-deref-3 in
    named_here _ _ c.self.invariant here.chunk here.applied c.args.unit
    c.index-as_slice-unit.result
    (subst (λ (r : Revising). contains (open_units r) c.args.unit ≡ true) (sym c.self.view_is)
    c.requires.unit) here.unit

pub work_unit-worked-requires-clause-old_rows : goal.work_unit-worked-requires-clause-old_rows
work_unit-worked-requires-clause-old_rows g c =
    let here = is_read g (goal.at.work_unit-worked-requires-clause-old_rows g c).After-deref-3 in
    old_named_here _ _ c.self.invariant here.chunk here.applied c.args.unit
    c.index-as_slice-unit.result
    (subst (λ (r : Revising). contains (open_units r) c.args.unit ≡ true) (sym c.self.view_is)
    c.requires.unit) here.unit

pub work_unit-worked-requires-clause-opens : goal.work_unit-worked-requires-clause-opens
work_unit-worked-requires-clause-opens g c =
    let here = is_read g (goal.at.work_unit-worked-requires-clause-opens g c).After-deref-3 in
    subst (λ (p : Program). IsValueBelow (unit_values p c.index-as_slice-unit.result)
    c.index-opening.result.now) (sym c.deref-3.ensures)
    (opens_here _ _ c.self.invariant here.chunk here.applied c.args.unit
    c.index-as_slice-unit.result
    (subst (λ (r : Revising). contains (open_units r) c.args.unit ≡ true) (sym c.self.view_is)
    c.requires.unit) here.unit c.index-opening.result.now here.opening)

pub work_unit-worked-requires-clause-few : goal.work_unit-worked-requires-clause-few
work_unit-worked-requires-clause-few g c =
    let here = is_read g (goal.at.work_unit-worked-requires-clause-few g c).After-deref-3 in
    few_here _ _ c.self.invariant here.chunk here.applied c.args.unit
    c.index-as_slice-unit.result
    (subst (λ (r : Revising). contains (open_units r) c.args.unit ≡ true) (sym c.self.view_is)
    c.requires.unit) here.unit

pub returns-clause-worked : goal.returns-clause-worked
returns-clause-worked g c =
    let before = (goal.at.returns-clause-worked g c).After-deref-3 in
    let here = is_read g before in
    if_ok_both c.work_unit-worked.result _ _ (IsWorkOf c.args.self.now c.args.unit)
    c.work_unit-worked.ensures.rows c.work_unit-worked.ensures.evaluations
    (λ made rows counts. work_by _ _ c.self.invariant here.chunk here.applied c.args.unit
    c.index-as_slice-unit.result
    (subst (λ (r : Revising). contains (open_units r) c.args.unit ≡ true) (sym c.self.view_is)
    c.requires.unit) here.unit c.args.self.now c.deref-3.result.now c.end_before-before.result
    c.left-w.result c.right-q.result c.index-opening.result.now made c.self.view_is
    c.deref-3.ensures
    (c.end_before-before.ensures ∙ ap (λ (p : Program). end_before p.plan c.self.inside.number)
    c.deref.ensures)
    (from g before) (until g before) here.opening rows counts)

-- its trigger points are those of the query
triggers : (g : Over) (c : After-deref-3 g)
    → triggers_of (known c.self.inside.cache.rows c.self.inside.store)
    (rules_of c.index-as_slice-unit.result.kind) c.left-w.result c.right-q.result
    ≡ trigger_points_of_unit c.args.self.now.program c.args.self.now.taken
    (number_of c.args.self.now) c.args.unit
triggers g c =
    let here = is_read g c in
    triggers_by _ _ c.self.invariant here.chunk here.applied c.args.unit
    c.index-as_slice-unit.result
    (subst (λ (r : Revising). contains (open_units r) c.args.unit ≡ true) (sym c.self.view_is)
    c.requires.unit) here.unit c.args.self.now c.left-w.result c.right-q.result c.self.view_is
    (from g c) (until g c)

pub returns-clause-ok : goal.returns-clause-ok
returns-clause-ok g c =
    on_ok_more c.work_unit-worked.result _ _ c.work_unit-worked.ensures.steps (λ rose.
    omega (
      arith,
      ap (λ (s : Counted). s.count) rose,
      ap (λ (s : Counted). s.count) c.part-part.ensures.part,
      ap (λ (s : Counted). s.count) c.part-part.ensures.out,
      ap (λ (s : Counted). s.count) c.add.ensures,
      triggers g (goal.at.returns-clause-ok g c).After-deref-3,
    ))

pub returns-clause-most : goal.returns-clause-most
returns-clause-most g c =
    either_way c.work_unit-worked.result _ _ _ c.work_unit-worked.ensures.steps
    c.work_unit-worked.ensures.most
    (λ rose. omega (
      arith,
      ap (λ (s : Counted). s.count) rose,
      ap (λ (s : Counted). s.count) c.part-part.ensures.part,
      ap (λ (s : Counted). s.count) c.part-part.ensures.out,
      ap (λ (s : Counted). s.count) c.add.ensures,
      triggers g (goal.at.returns-clause-most g c).After-deref-3,
    ))
    (λ rose. omega (
      arith,
      rose,
      ap (λ (s : Counted). s.count) c.part-part.ensures.part,
      ap (λ (s : Counted). s.count) c.part-part.ensures.out,
      ap (λ (s : Counted). s.count) c.add.ensures,
      triggers g (goal.at.returns-clause-most g c).After-deref-3,
    ))
