use Rattle.std.proofs.Common.{◌≡◌, ◌∙◌, ℕ, List, Bool, None, [], length, map, refl, sym, ap, false}
use Rattle.std.proofs.Common.{ap₂, subst, arith}
use Rattle.std.specs.Arc.{arc_value}
use Rattle.std.specs.Vec.{vec_capacity}
use Rattle.std.specs.Prelude.{replicate, is_some}
use Rattle.ground_types.specs.declared.entries.Entry.{Entry}
use Rattle.ground_types.specs.declared.program.Program.{Program}
use Rattle.ground_types.specs.declared.program.Unit.{Unit}
use Rattle.layer_cache.specs.Cached.{all_empty}
use Rattle.layer_cache.specs.Rows.{Cached}
use Rattle.delay_revise.specs.Revising.{Revising}
use Rattle.delay_revise.specs.Going.{IsSmall, IsRevising, Parts}
use Rattle.delay_revise.proofs.GoingOn.{begins, none_kept_is}
use Rattle.delay_revise.proofs.reviser.Reviser.new.Goals.{After-new-3}
use Rattle.delay_revise.proofs.reviser.Reviser.new.Goals as goal

-- no unit has a count
none_counted : (c : After-new-3) → c.in_ok-counts.counts.items
    ≡ replicate (length (arc_value c.args.program).units) None
none_counted c =
    c.in_ok-counts.ensures
    ∙ ap (λ (n : ℕ). replicate n None)
    (ap (λ (l : List Unit). length l) (c.as_slice.ensures
    ∙ ap (λ (p : Program). p.units) c.deref-3.ensures))

pub invariant_of-result : goal.invariant_of-result
invariant_of-result c =
    let small : IsSmall (arc_value c.args.program) = subst IsSmall c.deref.ensures
    c.in_ok-cache.ensures.small in
    let cached : c.in_ok-cache.cache ≡ record {
      rows = all_empty (arc_value c.args.program);
      before = all_empty (arc_value c.args.program);
    } = c.in_ok-cache.ensures.empty ∙ ap (λ (p : Program). let made : Cached = record {
      rows = all_empty p;
      before = all_empty p;
    } in made) c.deref.ensures in
    let ahead : c.in_ok-ahead.ahead ≡ replicate (arc_value c.args.program).plan.queries [] =
    c.in_ok-ahead.ensures ∙ ap (λ (p : Program). replicate p.plan.queries []) c.deref-2.ensures in
    let made : Parts = record {
      number = 0;
      placed = 0;
      room = vec_capacity c.in_ok-history.history;
      cached = c.in_ok-cache.cache;
      store = c.new-2.result;
      ahead = c.in_ok-ahead.ahead;
      opening = c.new-3.result.items;
      counts = c.in_ok-counts.counts.items;
    } in
    subst (λ (h : List Entry). IsRevising (record {
      program = arc_value c.args.program;
      cap = c.args.cap;
      taken = h;
      has_chunk = false;
      applied = false;
      layer = 0;
      kept = map is_some c.in_ok-counts.counts.items;
    }) made) (sym c.in_ok-history.ensures.items)
    (begins (arc_value c.args.program) c.args.cap _ made c.requires.sound small
    (omega (arith, c.ranges.cap.fits)) (omega (arith, c.in_ok-history.ensures.capacity)) refl refl
    cached c.new-2.ensures.standing ahead (none_counted c))

pub returns : goal.returns
returns c =
    ap₂ (λ (h : List Entry) (kept : List Bool). let made : Revising = record {
      program = arc_value c.args.program;
      cap = c.args.cap;
      taken = h;
      has_chunk = false;
      applied = false;
      layer = 0;
      kept = kept;
    } in made) c.in_ok-history.ensures.items
    (none_kept_is (arc_value c.args.program) _ (none_counted c))
