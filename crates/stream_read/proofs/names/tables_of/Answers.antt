use Rattle.stream_read.proofs.SoundWords.{distinct_at}
use Rattle.stream_read.proofs.names.tables_of.Goals as goal

pub table_of-requires : goal.table_of-requires
table_of-requires c = distinct_at c.args.domains.now c.loop-domain.domain-index
    c.domain-item.result c.requires c.loop-domain-test.true c.domain-item.is
