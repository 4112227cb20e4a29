use Rattle.std.proofs.Common.{◌≡◌, map, take}
use Rattle.static_fluent.specs.Evaluated.{spans_in}
use Rattle.static_fluent.proofs.rows.lent.Given as goal

abbrev pub invariant-loop-member : goal.invariant-loop-member
invariant-loop-member l = map (λ list. list.now) l.lists.items
    ≡ map spans_in (take l.member-index l.members)
