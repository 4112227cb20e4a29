use Rattle.std.proofs.Common.{◌≡◌, ◌+◌, ◌++◌, ◌∷◌, [], map, take, sym, subst, ap, ◌∙◌}
use Rattle.std.proofs.lemmas.List.{take_more, map-append}
use Rattle.word_table.specs.Sets.{IsSetOf}
use Rattle.word_table.proofs.LookUps.{one_more}
use Rattle.word_table.proofs.table.WordTable.of.Goals as goal

pub loop-item-preserved : goal.loop-item-preserved
loop-item-preserved g c =
    let word_of = g.T.Worded.word_of in
    let i = c.loop-item.item-index in
    let items = c.args.items.now in
    let item = c.item-item.result in
    let next : take (i + 1) items ≡ take i items ++ item ∷ [] =
    take_more items i item c.loop-item-test.true
    ∙ ap (λ x. take i items ++ x ∷ []) (sym c.item-item.is) in
    let words : map word_of (take (i + 1) items)
    ≡ map word_of (take i items) ++ c.word.result.now ∷ [] =
    ap (map word_of) next ∙ map-append word_of (take i items) (item ∷ [])
    ∙ ap (λ w. map word_of (take i items) ++ w ∷ []) (sym c.word.ensures) in
    subst (IsSetOf c.insert.new.self) (sym words)
    (one_more c.loop-item.table c.insert.new.self (map word_of (take i items)) c.word.result.now
    c.in_ok-insert.field-0 c.in_ok-insert.ensures.added c.in_ok-insert.ensures.words
    c.loop-item.invariant)
