use Rattle.std.proofs.Common.{rules}
use Rattle.query_ask.proofs.Lamps.{lamp_is_right}
use Rattle.query_ask.proofs.tests.publication.Goals as goal

pub new-requires : goal.new-requires
new-requires c = record {
  right = lamp_is_right _ _ _ _ c.in_ok-program.ensures (search rules) (search rules)
      c.in_ok-rows.ensures;
}
