-- Steps of a program and its readers may be done from the first state on.
use Rattle.std.proofs.Common.{◌≡◌, ℕ, true, List, sym, subst}
use Rattle.std.specs.List.{list_all}
use Rattle.std.proofs.lemmas.List.{length-replicate}
use Rattle.ground_types.specs.declared.program.Program.{Program}
use Rattle.system_core.specs.Core.{Core, empty_core, is_step_of, may_run}
use Rattle.system_core.specs.declared.steps.Step.{Step}

pub may_start : (program : Program) (cap readers : ℕ) (steps : List Step) (core : Core)
    → core ≡ empty_core program cap readers → list_all (is_step_of program readers) steps ≡ true
    → may_run core steps ≡ true
may_start program cap readers steps core is may =
    subst (λ (c : Core). may_run c steps ≡ true) (sym is)
    (subst (λ (n : ℕ). list_all (is_step_of program n) steps ≡ true)
    (sym (length-replicate readers 0)) may)
