use Rattle.std.proofs.Common.{rules, ◌≡◌, sym, subst, Option, Some}
use Rattle.std.specs.Prelude.{option_map}
use Rattle.command_words.specs.Words.{plain_task}
use Rattle.command_words.specs.declared.task.Task.{Task as LentTask}
use Rattle.command_words.specs.declared.task.Task.TheVariants as lent
use Rattle.rtec_main.specs.Run.{Completes}
use Rattle.rtec_main.specs.Tasks.{world_of}
use Rattle.rtec_main.proofs.run.perform.Goals as goal

pub returns-in-Some-Recognise-clause-status : goal.returns-in-Some-Recognise-clause-status
returns-in-Some-Recognise-clause-status g c =
    let means = c.recognise.ensures.means c.in-Some-Recognise.field-0-2 in search rules

pub returns-in-Some-Recognise-clause-complete : goal.returns-in-Some-Recognise-clause-complete
returns-in-Some-Recognise-clause-complete g c =
    let complete = c.recognise.ensures.complete c.in-Some-Recognise.field-0-2 in search rules

pub returns-in-Some-Simulate-clause-status : goal.returns-in-Some-Simulate-clause-status
returns-in-Some-Simulate-clause-status g c =
    let means = c.simulate.ensures.means c.in-Some-Simulate.field-0-3 in search rules

pub returns-in-Some-Simulate-clause-complete : goal.returns-in-Some-Simulate-clause-complete
returns-in-Some-Simulate-clause-complete g c =
    let old = world_of (g.I.Inputs.bytes c.args.inputs.now) (g.I.Inputs.faults c.args.inputs.now)
    (g.K.Sink.taken c.args.out.now) (g.K.Sink.faults c.args.out.now) in
    let new = world_of (g.I.Inputs.bytes c.simulate.new.inputs)
    (g.I.Inputs.faults c.simulate.new.inputs) (g.K.Sink.taken c.simulate.new.out)
    (g.K.Sink.faults c.simulate.new.out) in
    let is : c.args.asked.now ≡ Some (lent.Simulate c.in-Some-Simulate.description
    c.in-Some-Simulate.seed c.in-Some-Simulate.size c.in-Some-Simulate.field-0-3
    c.in-Some-Simulate.is_full) = search rules in
    subst (λ (task : Option LentTask). Completes old new (option_map plain_task task)
    c.simulate.result) (sym is)
    (c.simulate.ensures.complete c.in-Some-Simulate.field-0-3)
