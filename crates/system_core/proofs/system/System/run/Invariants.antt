use Rattle.std.proofs.Common.{◌≡◌, take}
use Rattle.system_core.specs.Core.{core_after, outcomes}
use Rattle.system_core.proofs.system.System.run.Given as goal

abbrev pub invariant-loop-step : goal.invariant-loop-step
invariant-loop-step l = record {
  state : l.self ≡ core_after l.fn.self (take l.step-index l.steps);
  made : l.outcomes.items ≡ outcomes l.fn.self (take l.step-index l.steps);
}
