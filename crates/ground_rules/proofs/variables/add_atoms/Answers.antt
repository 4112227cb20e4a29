use Rattle.std.proofs.Common.{filter_map, fold, ap, sym, ◌∙◌, append-nil}
use Rattle.decl_known.specs.Mentions.{variable_in, variables}
use Rattle.decl_known.specs.Gathered.{mentions_of}
use Rattle.ground_rules.specs.Assignments.{with_word}
use Rattle.ground_rules.proofs.Occurring.{variables_of_both, one_more_taken}
use Rattle.ground_rules.proofs.variables.add_atoms.Goals as goal

pub loop-mention-preserved : goal.loop-mention-preserved
loop-mention-preserved c =
    one_more_taken with_word (λ mentions. variables (mentions_of mentions)) variables_of_both
    c.args.mentions.now c.loop-mention.mention-index c.mention-item.result
    _ _ _ c.loop-mention-test.true c.mention-item.is
    (c.in_ok-add_atom.ensures ∙ ap (fold with_word _)
    (sym (append-nil (filter_map variable_in c.mention-item.result.atom.now.args))))
    c.loop-mention.invariant
