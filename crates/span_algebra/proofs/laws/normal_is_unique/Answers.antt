use Rattle.span_algebra.proofs.Covering.{normal_unique}
use Rattle.span_algebra.proofs.laws.normal_is_unique.Goals as goal

pub returns : goal.returns
returns c = normal_unique 0
