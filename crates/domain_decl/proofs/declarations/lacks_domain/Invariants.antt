use Rattle.std.proofs.Common.{◌≡◌, take, false, not}
use Rattle.std.specs.List.{list_any}
use Rattle.ground_types.specs.Words.{has}
use Rattle.domain_decl.proofs.declarations.lacks_domain.Given as goal

abbrev pub invariant-loop-argument : goal.invariant-loop-argument
invariant-loop-argument l = list_any (λ argument. not (has l.domains argument))
    (take l.argument-index l.argument-items) ≡ false
