use Rattle.std.proofs.lemmas.Result.{on_ok_weaker}
use Rattle.delay_revise.proofs.Telling.{told_word}
use Rattle.delay_revise.proofs.told.place.Goals as goal

pub returns-in-Some-first_query-clause-told : goal.returns-in-Some-first_query-clause-told
returns-in-Some-first_query-clause-told c = on_ok_weaker c.put.result (λ put entries store told.
    told_word c.args.program.now entries c.args.entry.now c.in-Some.word c.args.k
    c.in-Some-first_query.query store c.args.ahead.now c.put.new.self
    (record { on = c.in-Some.ensures.on; says = c.in-Some.ensures.says })
    (c.in-Some.ensures.known c.args.program.now.events c.requires.known)
    c.in-Some-first_query.ensures.some.0 c.in-Some-first_query.ensures.some.1 put told)
    c.put.ensures.put
