use Rattle.strata_check.proofs.OneLayering.{layerings_equal}
use Rattle.strata_check.proofs.laws.one_layering.Goals as goal

pub returns : goal.returns
returns c = layerings_equal
