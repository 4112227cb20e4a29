use Rattle.std.proofs.Common.{rules}
use Rattle.report_text.proofs.Ports.{both_counted}
use Rattle.report_text.proofs.tests.publication_text.Goals as goal

pub put_end-requires : goal.put_end-requires
put_end-requires c = record { counted = both_counted _ _ (search rules) (search rules) }
