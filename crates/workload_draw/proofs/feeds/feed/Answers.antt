use Rattle.std.proofs.Common.{◌≡◌, ◌⊎◌, inl, inr, ℕ, ◌+◌, ◌/◌, ◌≤◌, Bool, false, ◌==◌, not, ◌&&◌}
use Rattle.std.proofs.Common.{if◌then◌else◌, [], ◌∷◌, ◌++◌, sym, ◌∙◌, ap, arith}
use Rattle.std.proofs.lemmas.Bool.Decides.{nat_tests}
use Rattle.ground_types.specs.declared.program.Program.{Program}
use Rattle.workload_draw.specs.Workload.{Drawing, next_state, drawn, added, revoked_before}
use Rattle.workload_draw.specs.Workload.{with_feed}
use Rattle.workload_draw.proofs.feeds.feed.Goals as goal
use Rattle.workload_draw.proofs.feeds.feed.Goals.{else-draw-eq0-via-then-draw-eq0+else-i-gt0}
use Rattle.workload_draw.proofs.feeds.feed.Goals.{else-draw-eq0-via-else-draw-eq0}

-- with an add
abbrev with_add : Program → ℕ → ℕ → Drawing → Drawing
with_add program m i before =
    let next = next_state (next_state before.state) in
    record {
      state = next_state (next_state next);
      commands = before.commands ++ added program (1 + drawn 8 before.state) (i / m) next ∷ [];
    }

-- with a revoke
abbrev with_revoke : ℕ → Drawing → Drawing
with_revoke i before =
    let next = next_state (next_state before.state) in
    record {
      state = next_state next;
      commands = before.commands
          ++ revoked_before (1 + drawn 8 before.state) i before.commands next ∷ [];
    }

adds_by : (chance i : ℕ) → (chance ≡ 0 → ⊥) ⊎ (i ≤ 0) → ((chance == 0) && not (i == 0)) ≡ false
adds_by chance i (inl is) = grind (arith, nat_tests)
adds_by chance i (inr is) = grind (arith, nat_tests)

-- command i is an add, since its draw is not 0 or it is the first
adds : (program : Program) (m i : ℕ) (before : Drawing)
    → (drawn 10 (next_state before.state) ≡ 0 → ⊥) ⊎ (i ≤ 0)
    → with_feed program m i before ≡ with_add program m i before
adds program m i before is =
    ap (λ (b : Bool). if b then with_revoke i before else with_add program m i before)
    (adds_by (drawn 10 (next_state before.state)) i is)

pub returns-else-draw-eq0 : goal.returns-else-draw-eq0
returns-else-draw-eq0 c =
    let before : Drawing = record {
      state = c.args.draws.now.state;
      commands = c.args.before.now;
    } in
    let made : record {
      state = c.add.new.draws.state;
      commands = c.args.before.now ++ c.add.result ∷ [];
    } ≡ with_add c.args.program.now c.args.m c.args.i before = cc in
    let chance : c.draw-2.result ≡ drawn 10 (next_state before.state) = cc in
    let is : (drawn 10 (next_state before.state) ≡ 0 → ⊥) ⊎ (c.args.i ≤ 0) =
    elim c.else-draw-eq0.branch [
      | else-draw-eq0-via-then-draw-eq0+else-i-gt0 w ↦ inr w.if-i-gt0.false
      | else-draw-eq0-via-else-draw-eq0 w ↦ inl (λ zero. w.if-draw-eq0.false (chance ∙ zero))
    ] in
    made ∙ sym (adds c.args.program.now c.args.m c.args.i before is)
