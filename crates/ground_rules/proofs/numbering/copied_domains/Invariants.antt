use Rattle.std.proofs.Common.{◌≡◌, take}
use Rattle.ground_rules.proofs.numbering.copied_domains.Given as goal

abbrev pub invariant-loop-domain : goal.invariant-loop-domain
invariant-loop-domain l = l.list.items ≡ take l.domain-index l.domains
