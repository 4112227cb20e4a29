use Rattle.std.proofs.Common.{refl}
use Rattle.std.proofs.lemmas.Bool.{and_right}
use Rattle.ground_types.specs.declared.entries.Entry.TheVariants.{Fed}
use Rattle.ground_types.specs.declared.entries.Reply.TheVariants.{Forgotten}
use Rattle.admit_core.proofs.Table.{index_pass}
use Rattle.admit_core.proofs.replies.answer.Goals as goal

pub returns-then-at-left-clause-index : goal.returns-then-at-left-clause-index
returns-then-at-left-clause-index c = λ feeder.
    index_pass _ c.args.slots.now c.args.history.now
    (Fed feeder c.args.act c.args.event c.args.at Forgotten) c.requires.index
    (λ event at. and_right _ _ refl)
