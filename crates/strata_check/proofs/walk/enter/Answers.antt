use Rattle.std.proofs.Common.{◌∷◌, reverse, set, subst, sym, ap, ◌∙◌}
use Rattle.strata_check.specs.declared.walk.Mark.TheVariants.{Open}
use Rattle.strata_check.specs.Walks.{HasWalked}
use Rattle.strata_check.proofs.Walking.{entered, reverse_push}
use Rattle.strata_check.proofs.walk.enter.Goals as goal

pub returns : goal.returns
returns c =
    let graph = c.args.graph.now in
    let marks = c.args.marks.now.items in
    subst (HasWalked graph.names.now graph.rows.now marks (set marks c.args.other (Open 0 0)))
    (sym (reverse_push _ _ _ c.in_ok-push-2.ensures.items ∙ ap (λ l. c.args.other ∷ l)
    (reverse_push _ _ _ c.in_ok-push.ensures.items)))
    (entered graph.names.now graph.rows.now marks (c.args.at.place ∷ reverse
    c.args.below.now.items) c.requires.walking c.args.other c.requires.new (
      c.args.at.next,
      c.requires.next,
    ))
