use Rattle.std.proofs.Common.{◌≡◌, true, rules, subst, sym}
use Rattle.std.specs.Arc.{arc_value}
use Rattle.std.specs.List.{list_all}
use Rattle.ground_types.specs.declared.program.Program.{Program}
use Rattle.system_core.specs.Core.{is_step_of}
use Rattle.core_tests.proofs.Starting.{may_start}
use Rattle.core_tests.proofs.runs.started.Goals as goal

pub returns : goal.returns
returns c =
    let may : list_all (is_step_of c.in_ok-program.program c.args.readers) c.args.steps.now ≡ true
    = search rules in
    may_start (arc_value c.in_ok-shared.shared) c.args.cap c.args.readers c.args.steps.now
    c.in_ok-new.field-0 c.in_ok-new.ensures
    (subst (λ (p : Program). list_all (is_step_of p c.args.readers) c.args.steps.now ≡ true)
    (sym c.in_ok-shared.ensures.ok) may)
