use Rattle.std.proofs.Common.{◌≡◌, List, Some, slice_get, subst}
use Rattle.query_ask.specs.Right.{Parts}
use Rattle.delay_revise.specs.Revising.{IsPublished}
use Rattle.system_core.specs.Core.{Core}
use Rattle.system_core.proofs.system.System.list.Goals as goal

pub returns-clause-published : goal.returns-clause-published
returns-clause-published c j parts at =
    subst (λ (v : Core). IsPublished v.program v.history j parts) c.self.view_is
    (c.self.invariant.published_are j parts
    (subst (λ (l : List Parts). slice_get l j ≡ Some parts) c.list.ensures.list at))
