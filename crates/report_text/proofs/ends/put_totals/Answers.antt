use Rattle.std.proofs.Common.{append_assoc}
use Rattle.report_text.proofs.ends.put_totals.Goals as goal

pub returns : goal.returns
returns c = rw c.in_ok-put_all.ensures (simp append_assoc)
