use Rattle.std.proofs.Common.{◌≡◌, take}
use Rattle.ground_types.specs.Sound.{domain_sizes}
use Rattle.ground_names.proofs.lists.put_sizes.Given as goal

abbrev pub invariant-loop-number : goal.invariant-loop-number
invariant-loop-number l = l.into.items ≡ domain_sizes l.domains (take l.number-index l.numbers)
