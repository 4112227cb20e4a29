use Rattle.std.proofs.Common.{drop}
use Rattle.ground_rules.proofs.Firsts.{AreNumbered}
use Rattle.ground_rules.proofs.numbering.numbered.Given as goal

abbrev pub invariant-loop-name : goal.invariant-loop-name
invariant-loop-name l = AreNumbered l.domains l.names (drop l.name-index l.names) l.list.items
    l.counts.events l.counts.units
