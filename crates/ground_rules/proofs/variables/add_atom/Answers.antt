use Rattle.std.proofs.Common.{filter_map}
use Rattle.std.proofs.lemmas.List.Elements.{filter_map-append}
use Rattle.decl_known.specs.Mentions.{variable_in}
use Rattle.ground_rules.specs.Assignments.{with_word}
use Rattle.ground_rules.proofs.Occurring.{one_more_taken}
use Rattle.ground_rules.proofs.variables.add_atom.Goals as goal

pub loop-term-preserved : goal.loop-term-preserved
loop-term-preserved c =
    one_more_taken with_word (filter_map variable_in) (filter_map-append variable_in)
    c.as_slice-term-items.result.now c.loop-term.term-index c.term-item.result
    _ _ _ c.loop-term-test.true c.term-item.is c.in_ok-add_term.ensures c.loop-term.invariant
