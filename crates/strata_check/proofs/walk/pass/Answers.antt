use Rattle.std.proofs.Common.{◌+◌, reverse, set, subst, sym, arith}
use Rattle.std.proofs.lemmas.Option.{slice_get_within}
use Rattle.strata_check.specs.declared.walk.Mark.TheVariants.{Open}
use Rattle.strata_check.specs.Rows.{row_at}
use Rattle.strata_check.specs.Walks.{HasWalked}
use Rattle.strata_check.proofs.Walking.{passed, reverse_push}
use Rattle.strata_check.proofs.walk.pass.Goals as goal

pub returns : goal.returns
returns c =
    let graph = c.args.graph.now in
    let marks = c.args.marks.now.items in
    subst (HasWalked graph.names.now graph.rows.now marks (set marks c.args.at.place
    (Open (c.args.at.next + 1) c.greater.result)))
    (sym (reverse_push _ _ _ c.in_ok-push.ensures.items))
    (passed graph.names.now graph.rows.now marks c.args.at.place (reverse c.args.below.now.items)
    c.requires.walking c.args.at.next c.args.at.greatest c.requires.standing
    c.args.other c.args.layer (c.args.at.next + 1) c.greater.result c.requires.next c.requires.done
    (omega arith) c.greater.ensures
    (slice_get_within (row_at graph.rows.now c.args.at.place) c.args.at.next c.args.other
    c.requires.next))
