use Rattle.std.proofs.Common.{rules}
use Rattle.admit_core.specs.Index.{start}
use Rattle.admit_core.proofs.index.start_of.Goals as goal

pub returns-clause-value : goal.returns-clause-value
unfolding start
returns-clause-value c = search rules
