use Rattle.std.proofs.Common.{◌≡◌, ◌∙◌, true, length, refl, sym, ap, subst}
use Rattle.std.specs.Arc.{arc_value}
use Rattle.ground_types.specs.Windows.{left, right}
use Rattle.ground_types.specs.declared.program.Program.{Program}
use Rattle.query_ask.specs.Right.{Parts}
use Rattle.delay_revise.specs.Revising.{Revising, IsPublished, number_of}
use Rattle.delay_revise.proofs.Publishing.{total_few, published_here, published_by, right_of}
use Rattle.delay_revise.proofs.Publishing.{queries_more}
use Rattle.delay_revise.proofs.reviser.Reviser.publication.Goals.{After-total}
use Rattle.delay_revise.proofs.reviser.Reviser.publication.Goals as goal

-- the chunk is open and applied, and all layers are ended
record IsDone (r : Revising) : Type 0 where
  chunk : r.has_chunk ≡ true
  applied : r.applied ≡ true
  layers : r.layer ≡ length r.program.layers

done_by : (r now : Revising) → r ≡ now → now.has_chunk ≡ true → now.applied ≡ true
    → now.layer ≡ length now.program.layers → IsDone r
done_by r now seen opened applied layers = record {
  chunk = ap (λ (s : Revising). s.has_chunk) seen ∙ opened;
  applied = ap (λ (s : Revising). s.applied) seen ∙ applied;
  layers = subst (λ (s : Revising). s.layer ≡ length s.program.layers) (sym seen) layers;
}

pub total-requires : goal.total-requires
total-requires c =
    let done = done_by _ _ c.self.view_is c.requires.chunk c.requires.applied c.requires.layers in
    record {
      few = total_few _ _ c.self.invariant done.chunk done.applied done.layers
          c.deref-4.result.now c.deref-5.result.now c.deref-4.ensures c.deref-5.ensures.value;
    }

-- what is made of the parts
abbrev parts_of : After-total → Parts
parts_of c = record {
  number = c.self.inside.number;
  front = c.len.result;
  program = arc_value c.in_ok-program.program;
  opening = c.of-values.result;
  events = c.in_ok-events.events.items;
  rows = c.into_vec-rows.result.items;
  evaluations = c.total.result;
}

published_now : (c : After-total)
    → IsPublished (arc_value c.self.inside.program) c.self.inside.history.items
    c.self.inside.number (parts_of c)
published_now c =
    let done = done_by _ _ c.self.view_is c.requires.chunk c.requires.applied c.requires.layers in
    published_here _ _ c.self.invariant done.chunk done.applied done.layers (parts_of c)
    (arc_value c.self.inside.program) c.deref-4.result.now c.deref-5.result.now c.left-w.result
    c.right-q.result refl
    (c.len.ensures ∙ c.self.inside.history.ok.0)
    refl
    c.in_ok-program.ensures.cases
    c.deref-4.ensures
    (c.of-values.ensures ∙ c.in_ok-from_slice.ensures.items ∙ c.deref-3.ensures.value)
    (c.left-w.ensures ∙ ap (λ (p : Program). left p.plan c.self.inside.number) c.deref.ensures)
    (c.right-q.ensures ∙ ap (λ (p : Program). right p.plan c.self.inside.number) c.deref-2.ensures)
    c.in_ok-events.ensures
    (c.into_vec-rows.ensures ∙ c.in_ok-copy_rows.ensures)
    c.deref-5.ensures.value
    c.total.ensures

pub new-requires : goal.new-requires
new-requires c =
    let done = done_by _ _ c.self.view_is c.requires.chunk c.requires.applied c.requires.layers in
    record {
      right = right_of (arc_value c.self.inside.program) c.self.inside.history.items
          c.self.inside.number (parts_of c)
          (queries_more _ _ c.self.invariant done.chunk done.applied done.layers)
          (published_now c);
    }

pub returns : goal.returns
returns c =
    let at = goal.at.returns c in
    let done = done_by _ _ c.self.view_is c.requires.chunk c.requires.applied c.requires.layers in
    subst (λ (p : Parts). IsPublished c.args.self.now.program c.args.self.now.taken
    (number_of c.args.self.now) p) (sym c.new.ensures.parts)
    (published_by _ _ c.self.invariant done.chunk done.applied done.layers c.args.self.now
    (parts_of at.After-total) c.self.view_is (published_now at.After-total))
