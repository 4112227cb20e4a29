-- No contract of the library speaks by this: short lists of steps of a lamp, by computation alone.
use Rattle.std.specs.Prelude.{◌≡◌, List, [], ◌∷◌, map, refl}
use Rattle.ground_types.specs.Examples.{lamp}
use Rattle.ground_types.specs.Publication.{PublishedRows, Published, fluent_rows}
use Rattle.ground_types.specs.declared.entries.Act.TheVariants.{Add}
use Rattle.ground_types.specs.declared.entries.Reply.TheVariants.{Admitted}
use Rattle.ground_types.specs.declared.entries.Query.TheVariants.{Holds}
use Rattle.query_ask.specs.declared.answers.Answer.TheVariants.{Yes}
use Rattle.system_core.specs.Core.{Core, empty_core, core_after, outcomes}
use Rattle.system_core.specs.declared.steps.Step.{Step}
use Rattle.system_core.specs.declared.steps.Step.TheVariants as step
use Rattle.system_core.specs.declared.steps.Outcome.{Outcome}
use Rattle.system_core.specs.declared.steps.Outcome.TheVariants as outcome
use Rattle.system_core.specs.declared.steps.StepRefused.TheVariants as refused

-- a lamp with one reader, and what it is told and asked
abbrev lamp_core : Core
lamp_core = empty_core lamp 8 1

abbrev lamp_steps : List Step
lamp_steps = step.Feed 1 Add 0 3 ∷ step.Seal ∷ step.Seal ∷ step.Turn ∷ step.Publish ∷ step.Claim
    ∷ step.Claim ∷ step.Finish 0 ∷ step.Finish 0 ∷ step.Turn ∷ step.Turn ∷ step.Publish
    ∷ step.Claim ∷ step.Read 0 (Holds 0 0 4) ∷ []

abbrev lamp_outcomes : List Outcome
lamp_outcomes = outcome.Replied Admitted ∷ outcome.Sealed 0 ∷ outcome.Refused refused.Busy
    ∷ outcome.Refused refused.LayerOpen ∷ outcome.Refused refused.LayersLeft ∷ outcome.Claimed 0
    ∷ outcome.Refused refused.NoUnit ∷ outcome.Finished ∷ outcome.Refused refused.NotClaimed
    ∷ outcome.Turned ∷ outcome.Refused refused.LayersDone ∷ outcome.Published 0
    ∷ outcome.Refused refused.Idle ∷ outcome.Read 1 Yes ∷ []

lamp_is_stepped : outcomes lamp_core lamp_steps ≡ lamp_outcomes
lamp_is_stepped = refl

-- what is told while a revision is open changes nothing of its publication
abbrev rows_of : Published → List PublishedRows
rows_of p = p.rows

late_steps : List Step
late_steps = step.Feed 1 Add 0 3 ∷ step.Feed 1 Add 1 7 ∷ step.Feed 1 Add 0 9 ∷ step.Seal ∷ step.Claim
    ∷ step.Feed 2 Add 0 5 ∷ step.Feed 2 Add 0 6 ∷ step.Finish 0 ∷ step.Turn ∷ step.Publish
    ∷ step.Seal ∷ step.Claim ∷ step.Finish 0 ∷ step.Turn ∷ step.Publish ∷ []

late_rows : map rows_of (core_after (empty_core lamp 8 0) late_steps).list
    ≡ (fluent_rows (((3, 7) ∷ (9, 11) ∷ []) ∷ []) ∷ [])
    ∷ (fluent_rows (((5, 7) ∷ (9, 16) ∷ []) ∷ []) ∷ []) ∷ []
unfolding late_steps
late_rows = refl
