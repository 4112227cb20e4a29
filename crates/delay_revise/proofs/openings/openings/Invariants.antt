use Rattle.std.proofs.Common.{◌≡◌, ℕ, suc, List, map, take}
use Rattle.ground_types.specs.Publication.{opening_of, publication}
use Rattle.ground_types.specs.declared.entries.Entry.{Entry}
use Rattle.query_ask.specs.Right.{published}
use Rattle.delay_revise.proofs.openings.openings.Given as goal

abbrev pub invariant-loop-number : goal.invariant-loop-number
invariant-loop-number l =
    (history : List Entry) → ((j : ℕ) → l.k ≡ suc j → map published l.cache.before
    ≡ (publication l.program history j).rows)
    → l.opening.items ≡ take l.number (opening_of l.program history l.k)
