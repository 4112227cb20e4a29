use Rattle.std.proofs.Common.{◌≡◌, [], map, replicate}
use Rattle.ground_rules.proofs.buckets.Buckets.new.Given as goal

abbrev pub invariant-loop-turn : goal.invariant-loop-turn
invariant-loop-turn g l = map (λ list. list.items) l.lists.items ≡ replicate l._turn []
