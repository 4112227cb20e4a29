use Rattle.std.proofs.Common.{leb, rules, of_calls, Bor}
use Rattle.std.proofs.lemmas.Fn.{always_returns_same}
use Rattle.std.proofs.lemmas.List.Sorted.{IsPartitionedBy-leb}
use Rattle.ground_types.specs.declared.program.Name.{Name}
use Rattle.ground_names.proofs.InputEvents.{lent_rise, lent_split}
use Rattle.ground_names.proofs.events.begun.Goals as goal

pub returns : goal.returns
returns c =
    lent_split (λ (r : Bor Name). r.now) c.args.names.now c.args.event c.partition_point.result
    c.partition_point.ensures.bound
    (c.partition_point.ensures.partitioned (λ (r : Bor Name). leb r.now.first c.args.event)
    (always_returns_same _ _ _ (λ a r f k. search (rules, of_calls)))
    (IsPartitionedBy-leb (λ (r : Bor Name). r.now.first) c.args.names.now c.args.event
    (lent_rise (λ (r : Bor Name). r.now) c.args.names.now c.requires)))
