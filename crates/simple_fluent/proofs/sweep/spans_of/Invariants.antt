use Rattle.std.proofs.Common.{◌+◌, ◌-◌}
use Rattle.simple_fluent.proofs.Sweeping.{IsSweeping}
use Rattle.simple_fluent.proofs.sweep.spans_of.Given as goal

abbrev pub invariant-sweep : goal.invariant-sweep
invariant-sweep l =
    IsSweeping l.fn.opening l.inits l.terms l.w l.q l.firsts_left l.terms_left l.rows.items
    l.current l.since (l.seen + 1)

abbrev pub decreases-sweep : goal.decreases-sweep
decreases-sweep l = l.q - l.seen
