use Rattle.std.proofs.Common.{sym}
use Rattle.std.specs.Arc.{arc_value}
use Rattle.std.proofs.lemmas.List.{length-map}
use Rattle.report_text.proofs.ends.query_count.Goals as goal

pub returns : goal.returns
returns c = sym (length-map c.args.list.now arc_value)
