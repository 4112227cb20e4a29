use Rattle.system_core.proofs.Runs.{all_on}
use Rattle.system_core.proofs.laws.readers_see_more.Goals as goal

pub returns : goal.returns
returns c core steps most = (all_on core steps).sees most
