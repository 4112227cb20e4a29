use Rattle.std.proofs.Common.{◌≡◌, [], replicate}
use Rattle.event_store.proofs.ahead.Ahead.new.Given as goal

abbrev pub invariant-loop-turn : goal.invariant-loop-turn
invariant-loop-turn l = l.lists.items ≡ replicate l._turn []
