-- The history that is made of commands is legal.
use Rattle.std.proofs.Common.{◌≤◌, List, [], ◌∷◌, ◌++◌, refl, sym, subst, append-nil}
use Rattle.ground_types.specs.History.{seals, reply_to, AreLegalAfter, IsLegal}
use Rattle.ground_types.specs.declared.plan.Plan.{Plan}
use Rattle.ground_types.specs.declared.entries.Entry.{Entry}
use Rattle.ground_types.specs.declared.entries.Entry.TheVariants.{Fed, Seal}
use Rattle.ground_types.specs.declared.entries.Command.{Command}
use Rattle.ground_types.specs.declared.entries.Command.TheVariants as command
use Rattle.ground_types.proofs.Legal.{legal_push}
use Rattle.report_text.specs.Report.{entries_of, history_after, history_of}

-- a legal history goes on legally with the entry of a command
legal_more : (plan : Plan) (history : List Entry) (c : Command) → AreLegalAfter plan [] history →
    AreLegalAfter plan [] (history ++ entries_of plan history c)
legal_more plan history (command.Feed feeder act event at) legal =
    legal_push plan [] history (Fed feeder act event at (reply_to plan history act event at)) legal
    refl
legal_more plan history command.Seal legal = legal_push plan [] history (Seal (seals history))
    legal refl
legal_more plan history (command.Ask query) legal =
    subst (λ (h : List Entry). AreLegalAfter plan [] h) (sym (append-nil history)) legal
legal_more plan history (command.Wait count) legal =
    subst (λ (h : List Entry). AreLegalAfter plan [] h) (sym (append-nil history)) legal
legal_more plan history (command.After feeder count) legal =
    subst (λ (h : List Entry). AreLegalAfter plan [] h) (sym (append-nil history)) legal

-- the history of commands has right replies and seal numbers
legal_all : (plan : Plan) (history : List Entry) (commands : List Command)
    → AreLegalAfter plan [] history →
    AreLegalAfter plan [] (history_after plan history commands)
legal_all plan history [] legal = legal
legal_all plan history (c ∷ rest) legal = legal_all plan (history ++ entries_of plan history c)
    rest (legal_more plan history c legal)

pub made_is_legal : (plan : Plan) (commands : List Command)
    → seals (history_of plan commands) ≤ plan.queries → IsLegal plan (history_of plan commands)
made_is_legal plan commands few = record {
  entries = legal_all plan [] commands tt;
  few_seals = few;
}
