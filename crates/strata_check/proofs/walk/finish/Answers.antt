use Rattle.std.proofs.Common.{◌<◌, length, reverse, sym, ap, ◌∙◌, arith}
use Rattle.std.proofs.lemmas.Option.{slice_get_within, slice_get-get_or}
use Rattle.strata_check.specs.Walks.{layer_over}
use Rattle.strata_check.proofs.Walking.{ended, top_low}
use Rattle.strata_check.proofs.walk.finish.Goals as goal

pub layer_over-layer-requires : goal.layer_over-layer-requires
layer_over-layer-requires c =
    let graph = c.args.graph.now in
    let low = top_low graph.names.now graph.rows.now c.args.marks.now.items c.args.at.place
    (reverse c.args.below.now) c.requires.walking c.args.at.next c.args.at.greatest
    c.requires.standing in
    omega (arith, low.1, c.requires.walking.few, c.requires.walking.named, graph.few)

pub index_mut-requires : goal.index_mut-requires
index_mut-requires c =
    let inside = slice_get_within c.args.marks.now.items c.args.at.place _ c.requires.standing in
    omega (arith, c.args.marks.now.ok.0)

pub returns : goal.returns
returns c =
    let graph = c.args.graph.now in
    let inside = slice_get_within c.args.marks.now.items c.args.at.place _ c.requires.standing in
    let within : c.args.at.place < length graph.names.now = omega (
      arith,
      c.requires.walking.few,
      c.requires.walking.named,
    ) in
    ended graph.names.now graph.rows.now c.args.marks.now.items c.args.at.place
    (reverse c.args.below.now) c.requires.walking c.args.at.next c.args.at.greatest
    c.requires.standing
    c.layer_over-layer.result c.requires.last (c.layer_over-layer.ensures
    ∙ ap (λ o. layer_over o c.args.at.greatest)
    (sym (slice_get-get_or graph.names.now c.args.at.place c.index-graph-at.result within)))
