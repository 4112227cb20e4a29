use Rattle.std.proofs.Common.{◌≡◌, length, fold, take, option_map, Some}
use Rattle.ground_rules.specs.LentInstances.{instance_of}
use Rattle.ground_names.specs.Counted.{capped, ranked}
use Rattle.ground_rules.proofs.ArgumentRanks.{the_pairs}
use Rattle.ground_rules.proofs.instance.Instance.place.Given as goal

abbrev pub invariant-loop-term : goal.invariant-loop-term
invariant-loop-term l =
    Some l.place ≡ option_map capped (fold ranked (Some 0)
    (take (length l.yielded) (the_pairs l.self.clause.now.known.now.domains.now
    (instance_of l.self) l.name l.terms)))
