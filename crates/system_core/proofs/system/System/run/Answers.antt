use Rattle.std.proofs.Common.{◌∙◌, ◌+◌, ◌++◌, ◌∷◌, [], ap, take}
use Rattle.system_core.specs.declared.steps.Outcome.{Outcome}
use Rattle.system_core.proofs.Runs.{alike_after, may_at, on_any, outcomes_on, prefix_on, state_on}
use Rattle.system_core.proofs.Runs.{then_alike}
use Rattle.system_core.proofs.system.System.run.Goals as goal

pub step-requires : goal.step-requires
step-requires c =
    may_at c.args.self.now c.loop-step.self c.args.steps.now c.loop-step.step-index _ c.requires
    c.loop-step.invariant.state c.loop-step-test.true

pub returns-in_err-push-clause-prefix : goal.returns-in_err-push-clause-prefix
returns-in_err-push-clause-prefix c =
    on_any c.from_residual-in_err-push.result
    (prefix_on c.args.self.now c.loop-step.self c.args.steps.now c.loop-step.step-index _
    c.loop-step.invariant.state c.loop-step-test.true c.step.new.self c.step.result
    (c.step.ensures.step c.in_ok-outcome.ensures.there))

pub loop-step-preserved : goal.loop-step-preserved
loop-step-preserved c =
    record {
      state = state_on c.args.self.now c.loop-step.self c.args.steps.now c.loop-step.step-index _
          c.loop-step.invariant.state c.loop-step-test.true c.step.new.self c.step.result
          (c.step.ensures.step c.in_ok-outcome.ensures.there);
      made = c.in_ok-push.ensures.items
          ∙ ap (λ (o : Outcome). c.loop-step.outcomes.items ++ o ∷ []) c.in_ok-outcome.ensures.ok
          ∙ outcomes_on c.args.self.now c.loop-step.self c.args.steps.now c.loop-step.step-index
          _ c.loop-step.invariant.state c.loop-step-test.true c.step.new.self c.step.result
          (c.step.ensures.step c.in_ok-outcome.ensures.there) c.loop-step.outcomes.items
          c.loop-step.invariant.made;
    }

pub returns-in_err-push-clause-alike : goal.returns-in_err-push-clause-alike
returns-in_err-push-clause-alike c =
    alike_after c.args.self.now (take (c.loop-step.step-index + 1) c.args.steps.now) c.step.new.self
    (state_on c.args.self.now c.loop-step.self c.args.steps.now c.loop-step.step-index _
    c.loop-step.invariant.state c.loop-step-test.true c.step.new.self c.step.result
    (c.step.ensures.step c.in_ok-outcome.ensures.there))

pub returns-in_err-outcome-clause-alike : goal.returns-in_err-outcome-clause-alike
returns-in_err-outcome-clause-alike c =
    then_alike _ _ _
    (alike_after c.args.self.now (take c.loop-step.step-index c.args.steps.now) c.loop-step.self
    c.loop-step.invariant.state) c.step.ensures.alike

pub returns-clause-alike : goal.returns-clause-alike
returns-clause-alike c =
    alike_after c.args.self.now (take c.loop-step.step-index c.args.steps.now) c.loop-step.self
    c.loop-step.invariant.state
