use Rattle.std.proofs.Common.{◌∙◌, ap}
use Rattle.ground_types.specs.Words.{has}
use Rattle.word_table.proofs.WordLists.{has_by_items}
use Rattle.word_table.proofs.table.WordTable.contains.Goals as goal

pub returns : goal.returns
returns c = c.contains.ensures ∙ has_by_items (λ word. word.bytes.now) c.args.word.now
    c.self.inside.words.keys ∙ ap (λ words. has words c.args.word.now) c.self.view_is
