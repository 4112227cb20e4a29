use Rattle.span_algebra.proofs.Having.{rising_unique}
use Rattle.span_algebra.proofs.laws.rising_is_unique.Goals as goal

pub returns : goal.returns
returns c = rising_unique 0
