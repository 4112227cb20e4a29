use Rattle.std.proofs.Common.{◌≡◌, ◌<◌, ◌≤◌, ℕ, true, length}
use Rattle.layer_workers.specs.Answers.{AreAnswers}
use Rattle.delay_revise.specs.Layers.{unit_at}
use Rattle.delay_revise.specs.Revising.{IsWorkOf, is_kept}
use Rattle.delay_revise.proofs.reviser.Reviser.keep_all.Given as goal

abbrev pub invariant-loop-worked : goal.invariant-loop-worked
invariant-loop-worked l = record {
  same : l.self ≡ record l.fn.self { kept = l.self.kept };
  made : AreAnswers (λ number worked. IsWorkOf l.fn.self (unit_at l.units number) worked)
      (length l.made.items) l.made.items;
  few : length l.made.items ≤ length l.units;
  size : length l.self.kept ≡ length l.fn.self.kept;
  done : (place : ℕ) → length l.made.items ≤ place → place < length l.units
      → is_kept l.self (unit_at l.units place) ≡ true;
}

abbrev pub decreases-loop-worked : goal.decreases-loop-worked
decreases-loop-worked l = length l.made.items
