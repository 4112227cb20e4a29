use Rattle.std.proofs.Common.{◌≡◌, ◌≤◌, ◌-◌, length, take}
use Rattle.event_store.specs.Standing.{Events}
use Rattle.delay_revise.specs.Going.{AreTold}
use Rattle.delay_revise.proofs.told.place_all.Given as goal

abbrev pub invariant-loop-placed : goal.invariant-loop-placed
invariant-loop-placed l = record {
  size : length l.ahead ≡ l.program.plan.queries;
  most : l.placed ≤ length l.history;
  told : (store : Events) → AreTold l.program (take l.fn.placed l.history) l.k store l.fn.ahead
      → AreTold l.program (take l.placed l.history) l.k store l.ahead;
}

abbrev pub decreases-loop-placed : goal.decreases-loop-placed
decreases-loop-placed l = length l.history - l.placed
