use Rattle.std.proofs.Common.{◌≡◌, map, take}
use Rattle.stream_read.proofs.names.tables_of.Given as goal

abbrev pub invariant-loop-domain : goal.invariant-loop-domain
invariant-loop-domain l = l.tables.items ≡ map (λ domain. domain.entities)
    (take l.domain-index l.domains)
