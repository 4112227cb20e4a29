use Rattle.std.proofs.Common.{sym, ◌+◌, ◌<◌, rules}
use Rattle.std.specs.Arc.{arc_value}
use Rattle.query_ask.proofs.Reading.{last_number, number_fits}
use Rattle.query_ask.proofs.readers.count.Goals as goal

pub overflow_add-result : goal.overflow_add-result
overflow_add-result c =
    let few = number_fits arc_value c.args.list.now c.in-Some.last.now
    (sym c.in-Some.ensures.value) _ c.requires.asked in
    let right = c.number.ensures.right.number in
    let few : c.number.result + 1 < 4294967296
    = rw c.number.ensures.number (rw c.deref.ensures (few (rw (sym c.deref.ensures) right))) in
    search (rules, few)

pub returns : goal.returns
returns c =
    rw c.number.ensures.number (rw c.deref.ensures (last_number arc_value c.args.list.now
    c.in-Some.last.now (sym c.in-Some.ensures.value) c.requires.asked.program
    c.requires.asked.members))
