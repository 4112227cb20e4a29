use Rattle.std.proofs.Common.{◌≡◌, take}
use Rattle.ground_types.specs.Sound.{domain_sizes}
use Rattle.ground_names.specs.Counted.{capped}
use Rattle.ground_names.proofs.Ordered.{product}
use Rattle.ground_names.proofs.lists.count_arguments.Given as goal

abbrev pub invariant-loop-number : goal.invariant-loop-number
invariant-loop-number l = l.count ≡ capped
    (product (domain_sizes l.domains (take l.number-index l.numbers)))
