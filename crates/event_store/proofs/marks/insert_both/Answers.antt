use Rattle.event_store.proofs.Turning.{taken_back}
use Rattle.event_store.proofs.marks.insert_both.Goals as goal

pub returns-then-is_err-clause-refused_first : goal.returns-then-is_err-clause-refused_first
returns-then-is_err-clause-refused_first c =
    taken_back c.args.first.now c.insert.new.self c.remove.new.self c.args.at c.requires.first
    c.in_ok-insert.ensures.points c.remove.ensures.points c.rises.ensures
    c.rises-then-is_err.ensures
