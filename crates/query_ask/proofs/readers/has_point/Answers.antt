use Rattle.std.proofs.Common.{[], rules}
use Rattle.query_ask.proofs.Reading.{row_has}
use Rattle.query_ask.proofs.readers.has_point.Goals as goal

pub returns-in-Some : goal.returns-in-Some
returns-in-Some c =
    let has = row_has c.as_slice.result.now c.args.value c.args.at c.in-Some.row.now
    (c.in-Some.ensures.lookup.3.1 []) in
    search (rules, has)
