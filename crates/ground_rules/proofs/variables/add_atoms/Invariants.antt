use Rattle.std.proofs.Common.{◌≡◌, map, fold, take}
use Rattle.decl_known.specs.Mentions.{variables}
use Rattle.decl_known.specs.Gathered.{mentions_of}
use Rattle.ground_rules.specs.Assignments.{with_word}
use Rattle.ground_rules.proofs.variables.add_atoms.Given as goal

abbrev pub invariant-loop-mention : goal.invariant-loop-mention
invariant-loop-mention l =
    map (λ other. other.now) l.into.items ≡ fold with_word
    (map (λ other. other.now) l.initial.into.items)
    (variables (mentions_of (take l.mention-index l.mentions)))
