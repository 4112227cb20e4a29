use Rattle.std.proofs.Common.{◌≡◌, ◌∙◌, true, List, Bool, refl, sym, ap, ap₂, subst, arith}
use Rattle.std.specs.Prelude.{slice_set}
use Rattle.ground_types.specs.Members.{contains}
use Rattle.delay_revise.specs.Revising.{Revising, Made, IsWorkOf, open_units}
use Rattle.delay_revise.proofs.GoingOn.{kept_on, made_fits, kept_set}
use Rattle.delay_revise.proofs.UnitWork.{open_known}
use Rattle.delay_revise.proofs.reviser.Reviser.keep.Goals as goal

pub put_made-requires : goal.put_made-requires
put_made-requires c =
    made_fits _ _ c.args.unit c.worked.inside.evaluations c.worked.inside.rows c.self.invariant
    (open_known _ _ c.args.unit c.self.invariant
    (subst (λ (r : Revising). contains (open_units r) c.args.unit ≡ true) (sym c.self.view_is)
    c.requires.unit))
    (subst (λ (r : Revising). IsWorkOf r c.args.unit (record {
      rows = c.worked.inside.rows;
      evaluations = c.worked.inside.evaluations;
    })) (sym c.self.view_is)
    (subst (λ (m : Made). IsWorkOf c.args.self.now c.args.unit m) (sym c.worked.view_is)
    c.requires.worked))

pub index_mut-requires : goal.index_mut-requires
index_mut-requires c =
    omega (
      arith,
      open_known _ _ c.args.unit c.self.invariant
          (subst (λ (r : Revising). contains (open_units r) c.args.unit ≡ true)
          (sym c.self.view_is) c.requires.unit),
      c.self.invariant.kept.size,
      c.self.inside.counts.ok.0,
    )

pub invariant_of-self : goal.invariant_of-self
invariant_of-self c =
    let within = open_known _ _ c.args.unit c.self.invariant
    (subst (λ (r : Revising). contains (open_units r) c.args.unit ≡ true) (sym c.self.view_is)
    c.requires.unit) in
    let work = subst (λ (r : Revising). IsWorkOf r c.args.unit (record {
      rows = c.worked.inside.rows;
      evaluations = c.worked.inside.evaluations;
    })) (sym c.self.view_is)
    (subst (λ (m : Made). IsWorkOf c.args.self.now c.args.unit m) (sym c.worked.view_is)
    c.requires.worked) in
    kept_on _ _ c.args.unit c.worked.inside.evaluations c.worked.inside.rows c.put_made.new.cache
    _ _ c.self.invariant
    (subst (λ (r : Revising). r.has_chunk ≡ true) (sym c.self.view_is) c.requires.chunk)
    within work
    (made_fits _ _ c.args.unit c.worked.inside.evaluations c.worked.inside.rows c.self.invariant
    within work)
    c.put_made.ensures refl

pub returns : goal.returns
returns c =
    ap₂ (λ (r : Revising) (kept : List Bool). let after : Revising = record r { kept = kept } in
    after) c.self.view_is
    (kept_set c.self.inside.counts.items c.args.unit c.worked.inside.evaluations
    ∙ ap (λ (r : Revising). slice_set r.kept c.args.unit true) c.self.view_is)
