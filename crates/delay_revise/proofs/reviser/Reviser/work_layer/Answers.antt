use denote.Param.Send.{sendable}
use Rattle.std.proofs.Common.{◌≡◌, ◌≤◌, ◌+◌, ◌∙◌, ℕ, List, sym, ap, subst, arith}
use Rattle.std.specs.List.{list_all}
use Rattle.ground_types.specs.declared.program.Program.{Program}
use Rattle.delay_revise.specs.Revising.{open_units, is_kept}
use Rattle.delay_revise.proofs.Crossing.{reviser_sync}
use Rattle.delay_revise.proofs.LayerWork.{few_open, open_read, layer_cost}
use Rattle.delay_revise.proofs.reviser.Reviser.work_layer.Given.{Over}
use Rattle.delay_revise.proofs.reviser.Reviser.work_layer.Goals.{After-as_slice-units}
use Rattle.delay_revise.proofs.reviser.Reviser.work_layer.Goals as goal

-- the units that are read are the open ones
units_open : (g : Over) (c : After-as_slice-units g)
    → c.as_slice-units.result.now ≡ open_units c.args.self.now
units_open g c =
    open_read _ c.args.self.now _ c.as_slice.result.now c.index-as_slice-self.result
    c.as_slice-units.result.now c.self.invariant c.self.view_is
    (c.as_slice.ensures ∙ ap (λ (p : Program). p.layers)
    (c.deref.ensures ∙ c.in_ok-program.ensures.cases))
    c.requires.layer c.index-as_slice-self.is c.as_slice-units.ensures

pub overflow_cast-units : goal.overflow_cast-units
overflow_cast-units g c =
    let at = goal.at.overflow_cast-units g c in
    omega (
      arith,
      few_open _ c.args.self.now _ c.as_slice-units.result.now c.self.invariant
          c.self.view_is (units_open g at.After-as_slice-units),
    )

pub all-requires-sync-P : goal.all-requires-sync-P
all-requires-sync-P g c κs within = let y = reviser_sync in search sendable depth 40

pub all-requires-after_bounds : goal.all-requires-after_bounds
all-requires-after_bounds g c κs within =
    let at = goal.at.all-requires-after_bounds g c in
    λ number below. record {
      opened = c.requires.chunk;
      applied = c.requires.applied;
      units_are = units_open g at.After-as_slice-units;
      within = below;
    }

pub returns-in_err-made-clause-most : goal.returns-in_err-made-clause-most
returns-in_err-made-clause-most g c =
    let at = goal.at.returns-in_err-made-clause-most g c in
    subst (λ (n : ℕ). c.all.new.steps.count ≤ c.args.steps.now.count + n)
    (layer_cost c.args.self.now c.as_slice-units.result.now
    (units_open g at.After-as_slice-units)) c.all.ensures.most

pub keep_all-requires-clause-units : goal.keep_all-requires-clause-units
keep_all-requires-clause-units g c =
    units_open g (goal.at.keep_all-requires-clause-units g c).After-as_slice-units

pub turn-requires-clause-kept : goal.turn-requires-clause-kept
turn-requires-clause-kept g c =
    let at = goal.at.turn-requires-clause-kept g c in
    ap (λ (l : List ℕ). list_all (is_kept c.keep_all.new.self) l)
    (ap open_units c.keep_all.ensures.same ∙ sym (units_open g at.After-as_slice-units))
    ∙ c.keep_all.ensures.kept

pub returns-clause-ok : goal.returns-clause-ok
returns-clause-ok g c =
    let at = goal.at.returns-clause-ok g c in
    c.in_ok-made.ensures.ok
    ∙ ap (λ (n : ℕ). c.args.steps.now.count + n)
    (layer_cost c.args.self.now c.as_slice-units.result.now
    (units_open g at.After-as_slice-units))

pub returns-clause-most : goal.returns-clause-most
returns-clause-most g c =
    let at = goal.at.returns-clause-most g c in
    subst (λ (n : ℕ). c.all.new.steps.count ≤ c.args.steps.now.count + n)
    (layer_cost c.args.self.now c.as_slice-units.result.now
    (units_open g at.After-as_slice-units)) c.all.ensures.most
