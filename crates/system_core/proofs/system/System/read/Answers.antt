use Rattle.std.proofs.Common.{◌∙◌, List, length, map, subst, sym, ap}
use Rattle.std.proofs.lemmas.List.{length-map}
use Rattle.std.specs.Arc.{arc_value}
use Rattle.query_ask.specs.Right.{Parts}
use Rattle.query_ask.specs.Answers.{said, answered, AreOfProgram}
use Rattle.system_core.proofs.Holdings.{of_program, read_is}
use Rattle.system_core.proofs.system.System.read.Goals as goal

pub returns : goal.returns
returns c =
    rw (← c.self.view_is)
    (read_is c.self.inside.claims c.self.inside.log c.self.inside.reviser c.self.inside.board
    c.self.inside.seen.items _ c.args.reader c.args.query.now (length c.list-list.result.now)
    c.ask-answer.result
    (sym (length-map c.list-list.result.now arc_value) ∙ ap length c.list-list.ensures.list)
    (c.ask-answer.ensures c.self.inside.claims.program
    (subst (AreOfProgram c.self.inside.claims.program) (sym c.list-list.ensures.list)
    (of_program _ _ _ _ _ _ c.self.invariant))
    ∙ ap (λ (l : List Parts). answered c.self.inside.claims.program.plan (map said l)
    c.args.query.now) c.list-list.ensures.list))
