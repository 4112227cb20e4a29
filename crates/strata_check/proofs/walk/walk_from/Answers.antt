use Rattle.std.proofs.Common.{[], ◌∷◌, reverse, set, subst, sym, ap, ◌∙◌}
use Rattle.strata_check.specs.declared.walk.Mark.TheVariants.{New, Open}
use Rattle.strata_check.specs.Walks.{HasWalked, IsNewMark}
use Rattle.strata_check.proofs.Marks.{set_same}
use Rattle.strata_check.proofs.Walking.{entered, reverse_push}
use Rattle.strata_check.proofs.walk.walk_from.Goals as goal

pub walk-init : goal.walk-init
walk-init c =
    let graph = c.args.graph.now in
    let marks = c.args.marks.now.items in (
      subst (HasWalked graph.names.now graph.rows.now marks (set marks c.args.start (Open 0 0)))
          (sym (reverse_push _ _ _ c.in_ok-push.ensures.items ∙ ap (λ l. c.args.start ∷ reverse l)
          c.new-trail.ensures.items))
          (entered graph.names.now graph.rows.now marks [] c.requires.walking c.args.start
          c.requires.new tt),
      λ n. subst (λ o. IsNewMark o) (set_same marks c.args.start New (Open 0 0) c.requires.new) n,
    )
