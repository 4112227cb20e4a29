use Rattle.std.proofs.Common.{◌≡◌, ◌++◌, flat_map, take}
use Rattle.decl_known.specs.Mentions.{body_mentions}
use Rattle.decl_known.specs.Gathered.{mentions_of}
use Rattle.decl_known.proofs.mentions.add_conditions.Given as goal

abbrev pub invariant-loop-body : goal.invariant-loop-body
invariant-loop-body l = mentions_of l.into.items ≡ mentions_of l.initial.into.items ++ flat_map
    body_mentions (take l.body-index l.bodies)
