use Rattle.std.proofs.Common.{take}
use Rattle.std.specs.List.{AllZip}
use Rattle.decl_known.proofs.LookUps.{IsOfDomain}
use Rattle.decl_known.proofs.known.entities_of.Given as goal

abbrev pub invariant-loop-domain : goal.invariant-loop-domain
invariant-loop-domain l = AllZip IsOfDomain l.sets.items (take l.domain-index l.domains)
