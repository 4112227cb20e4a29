use Rattle.std.proofs.Common.{subst, sym}
use Rattle.std.specs.List.{IsDistinct}
use Rattle.std.proofs.Common.{nat_eq}
use Rattle.event_store.proofs.Reading.{sorted_rise, all_are_sorted}
use Rattle.event_store.proofs.store.EventStore.events.Goals as goal

pub returns-clause-rising : goal.returns-clause-rising
returns-clause-rising c =
    sorted_rise c.in_ok-events.events.items c.sort_unstable.new.self.items
    (subst (IsDistinct nat_eq) (sym c.in_ok-events.ensures.keys) c.keys.ensures.unique)
    c.sort_unstable.ensures.permutation c.sort_unstable.ensures.sorted

pub returns-clause-all : goal.returns-clause-all
returns-clause-all c =
    all_are_sorted c.args.self.now c.sort_unstable.new.self.items
    (rw c.in_ok-events.ensures.keys at c.sort_unstable.ensures.permutation)
