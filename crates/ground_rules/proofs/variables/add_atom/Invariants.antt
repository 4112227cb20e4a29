use Rattle.std.proofs.Common.{◌≡◌, map, filter_map, fold, take}
use Rattle.decl_known.specs.Mentions.{variable_in}
use Rattle.ground_rules.specs.Assignments.{with_word}
use Rattle.ground_rules.proofs.variables.add_atom.Given as goal

abbrev pub invariant-loop-term : goal.invariant-loop-term
invariant-loop-term l =
    map (λ other. other.now) l.into.items ≡ fold with_word
    (map (λ other. other.now) l.initial.into.items)
    (filter_map variable_in (take l.term-index l.term-items))
