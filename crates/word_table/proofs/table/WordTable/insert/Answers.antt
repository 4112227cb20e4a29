use Rattle.std.proofs.Common.{◌∙◌, ap, ap₂, not}
use Rattle.ground_types.specs.Words.{has}
use Rattle.word_table.proofs.WordLists.{has_by_items}
use Rattle.word_table.proofs.table.WordTable.insert.Goals as goal

pub returns-clause-added : goal.returns-clause-added
returns-clause-added c = c.in_ok-added.ensures.added
    ∙ ap not (has_by_items (λ word. word.bytes.now) c.as_bytes.result.now c.self.inside.words.keys
    ∙ ap₂ has c.self.view_is c.as_bytes.ensures.value)
