use Rattle.std.proofs.Common.{◌∙◌, ap}
use Rattle.ground_types.specs.Words.{place_in}
use Rattle.word_table.proofs.WordLists.{place_by_items}
use Rattle.word_table.proofs.table.WordTable.place.Goals as goal

pub returns : goal.returns
returns c = c.get_index_of.ensures.index ∙ place_by_items (λ word. word.bytes.now) c.args.word.now
    c.self.inside.words.keys ∙ ap (λ words. place_in words c.args.word.now) c.self.view_is
