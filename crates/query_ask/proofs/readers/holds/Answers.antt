use Rattle.std.proofs.Common.{sym}
use Rattle.std.specs.Arc.{arc_value}
use Rattle.query_ask.proofs.Reading.{last_sound, last_unit, last_answers}
use Rattle.query_ask.proofs.readers.holds.Goals as goal

pub holds_in-requires-clause-sound : goal.holds_in-requires-clause-sound
holds_in-requires-clause-sound c =
    rw c.deref.ensures (last_sound arc_value c.args.list.now c.in-Some.last.now
    (sym c.in-Some.ensures.value) _ c.requires.asked)

pub holds_in-requires-clause-unit : goal.holds_in-requires-clause-unit
holds_in-requires-clause-unit c =
    rw c.deref.ensures (last_unit arc_value c.args.list.now c.in-Some.last.now
    (sym c.in-Some.ensures.value) _ _ _ c.requires.asked)

pub returns-in-Some : goal.returns-in-Some
returns-in-Some c =
    last_answers arc_value c.args.list.now c.in-Some.last.now (sym c.in-Some.ensures.value)
    _ _ _ _ (rw (sym c.deref.ensures) c.holds_in.ensures)
