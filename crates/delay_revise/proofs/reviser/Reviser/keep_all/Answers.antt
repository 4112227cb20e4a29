use Rattle.std.proofs.Common.{◌≡◌, ◌<◌, ◌+◌, ◌∙◌, ℕ, true, List, [], ◌∷◌, length, refl, sym, ap}
use Rattle.std.proofs.Common.{subst, arith, slice_set}
use Rattle.std.proofs.lemmas.List.{length-append, length-set}
use Rattle.delay_revise.specs.Layers.{unit_at}
use Rattle.delay_revise.specs.Revising.{Revising, Made, IsWorkOf}
use Rattle.delay_revise.proofs.LayerWork.{last_answer, first_answers, work_kept, kept_again}
use Rattle.delay_revise.proofs.LayerWork.{kept_size, open_at, one_more_kept, all_kept}
use Rattle.delay_revise.proofs.reviser.Reviser.keep_all.Goals as goal

pub keep-requires-clause-worked : goal.keep-requires-clause-worked
keep-requires-clause-worked c =
    work_kept c.args.self.now _ _ c.in-Some.worked _ c.loop-worked.invariant.same
    (subst (λ (n : ℕ). IsWorkOf c.args.self.now (unit_at c.args.units.now n) c.in-Some.worked)
    (sym (c.len.ensures ∙ c.pop.new.self.ok.0))
    (last_answer (λ (n : ℕ) (made : Made). IsWorkOf c.args.self.now (unit_at c.args.units.now n)
    made) _ c.loop-worked.made.items c.pop.new.self.items c.in-Some.worked
    c.loop-worked.invariant.made c.in-Some.ensures.items))

pub loop-worked-preserved : goal.loop-worked-preserved
loop-worked-preserved c =
    let here : c.len.result ≡ length c.pop.new.self.items = c.len.ensures ∙ c.pop.new.self.ok.0 in
    let more : length c.pop.new.self.items + 1 ≡ length c.loop-worked.made.items =
    sym (ap (λ (l : List Made). length l) c.in-Some.ensures.items
    ∙ length-append c.pop.new.self.items (c.in-Some.worked ∷ [])) in
    let within : length c.pop.new.self.items < length c.args.units.now =
    omega (arith, more, c.loop-worked.invariant.few) in
    let put : c.keep.new.self ≡ record c.loop-worked.self {
      kept = slice_set c.loop-worked.self.kept
          (unit_at c.args.units.now (length c.pop.new.self.items)) true;
    } = subst (λ (n : ℕ). c.keep.new.self ≡ record c.loop-worked.self {
      kept = slice_set c.loop-worked.self.kept (unit_at c.args.units.now n) true;
    }) here c.keep.ensures in
    record {
      same = kept_again c.args.self.now c.loop-worked.self c.keep.new.self _ _
          c.loop-worked.invariant.same c.keep.ensures;
      made = first_answers (λ (n : ℕ) (made : Made). IsWorkOf c.args.self.now
          (unit_at c.args.units.now n) made) _ c.loop-worked.made.items c.pop.new.self.items
          c.in-Some.worked c.loop-worked.invariant.made c.in-Some.ensures.items;
      few = omega (arith, within);
      size = ap (λ (r : Revising). length r.kept) put
          ∙ length-set c.loop-worked.self.kept
          (unit_at c.args.units.now (length c.pop.new.self.items)) true
          ∙ c.loop-worked.invariant.size;
      done = one_more_kept c.args.units.now c.loop-worked.self c.keep.new.self
          (length c.loop-worked.made.items) (length c.pop.new.self.items)
          (length c.args.units.now) c.loop-worked.invariant.done put more
          (omega (
            arith,
            open_at _ c.args.self.now _ c.args.units.now (length c.pop.new.self.items)
                c.self.invariant c.self.view_is c.requires.units within,
            kept_size _ _ c.self.invariant refl,
            ap (λ (r : Revising). length r.kept) c.self.view_is,
            c.loop-worked.invariant.size,
          ));
    }

pub returns-clause-kept : goal.returns-clause-kept
returns-clause-kept c =
    all_kept c.loop-worked.self c.args.units.now (λ place within.
    c.loop-worked.invariant.done place (omega (
      arith,
      c.in_default.ensures.cases,
      c.loop-worked.made.ok.0,
    )) within)
