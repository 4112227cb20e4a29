use Rattle.stream_read.proofs.RowsLeft.{took}
use Rattle.stream_read.proofs.rows.next_row.Goals as goal

pub returns-in-Ok : goal.returns-in-Ok
returns-in-Ok c =
    let text = c.requires.trim in
    took c.args.reader.now c.read_byte_record.new.self c.in-Ok.found _ c.requires
    (c.in-Ok.ensures.reads text c.requires.ready) c.in-Ok.ensures.flexible
    (c.in-Ok.ensures.ready text)
