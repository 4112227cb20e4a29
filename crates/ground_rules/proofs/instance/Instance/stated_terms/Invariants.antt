use Rattle.std.proofs.Common.{◌≡◌, map, take}
use Rattle.ground_rules.specs.LentInstances.{instance_of}
use Rattle.ground_rules.specs.Stated.{stated_term}
use Rattle.ground_rules.proofs.instance.Instance.stated_terms.Given as goal

abbrev pub invariant-loop-term : goal.invariant-loop-term
invariant-loop-term l = l.stated.items ≡ map (stated_term (instance_of l.self))
    (take l.term-index l.terms)
