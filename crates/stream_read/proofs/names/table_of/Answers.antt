use Rattle.std.proofs.Common.{◌≡◌, true, map, subst, sym, ◌∙◌}
use Rattle.std.proofs.lemmas.List.{map-id}
use Rattle.ground_types.specs.Sound.{is_distinct}
use Rattle.stream_read.proofs.names.table_of.Goals as goal

pub returns : goal.returns
returns c =
    let same : map (λ word. word) c.as_slice.result.now ≡ c.args.domain.now.entities =
    map-id c.as_slice.result.now ∙ c.as_slice.ensures in
    c.in_ok-table.ensures.distinct
    (subst (λ words. is_distinct words ≡ true) (sym same) c.requires) ∙ same
