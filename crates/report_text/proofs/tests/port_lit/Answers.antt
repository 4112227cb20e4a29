use Rattle.std.proofs.Common.{rules}
use Rattle.report_text.proofs.Ports.{port_is_right}
use Rattle.report_text.proofs.tests.port_lit.Goals as goal

pub new-requires-2 : goal.new-requires-2
new-requires-2 c = record {
  right = port_is_right _ _ _ _ (search rules) (search rules) (search rules)
      c.in_ok-rows.ensures;
}
