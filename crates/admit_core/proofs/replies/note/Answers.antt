use Rattle.std.proofs.Common.{ℕ, ◌+◌, ◌++◌, ◌∷◌, [], length, set, sym, subst}
use Rattle.std.proofs.Math.ListN.{length-set}
use Rattle.admit_core.specs.Index.{IsIndex}
use Rattle.admit_core.proofs.Table.{index_put}
use Rattle.admit_core.proofs.replies.note.Goals as goal

pub returns-clause-index : goal.returns-clause-index
returns-clause-index c = λ entry counts.
    let slots = c.args.slots.now in
    let history = c.args.history.now in
    let place = c.place_of-place.result in
    subst (λ (n : ℕ). IsIndex n (set slots place (length history + 1)) (history ++ entry ∷ []))
    (sym (length-set slots place (length history + 1)))
    (index_put (length slots) slots history entry c.requires.index c.args.event c.args.at place
    c.place_of-place.ensures counts)
