use Rattle.std.proofs.Common.{◌≡◌, ◌&&◌, leb, ltb, filter, map, take}
use Rattle.derived_event.specs.Borders.{border_of}
use Rattle.derived_event.proofs.happening.borders_in.Given as goal

abbrev pub invariant-loop-span : goal.invariant-loop-span
invariant-loop-span l = l.found.items ≡ filter (λ p. ltb l.w p && leb p l.q)
    (map (border_of l.border) (take l.span-index l.span-items))
