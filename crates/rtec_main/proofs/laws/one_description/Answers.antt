use Rattle.rtec_main.proofs.OneDescription.{one_description_is}
use Rattle.rtec_main.proofs.laws.one_description.Goals as goal

pub returns : goal.returns
returns c = one_description_is
