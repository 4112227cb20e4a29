use Rattle.delay_revise.proofs.Staying.{published_stays}
use Rattle.delay_revise.proofs.told_later.published_stays.Goals as goal

pub returns : goal.returns
returns c = λ program before more k parts is. published_stays program before more k parts is
