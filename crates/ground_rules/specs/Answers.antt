-- Public contracts speak by this: what grounding answers.
use Rattle.std.specs.Prelude.{◌≡◌, ℕ, List, Some, None, Result, Ok, Err}
use Rattle.ground_types.specs.declared.program.Program.{Program}
use Rattle.decl_known.specs.Checked.{PlainChecked}
use Rattle.ground_rules.specs.declared.refused.GroundRefused.{GroundRefused}
use Rattle.ground_rules.specs.declared.refused.GroundRefused.TheVariants as refused
use Rattle.ground_rules.specs.Grounded.{plain_program, grounded}
use Rattle.ground_rules.specs.Limits.{exceeded}

-- the program where no limit is exceeded, else the first limit that is, unless memory ran out
abbrev pub Answers : Result Program GroundRefused → PlainChecked → List ℕ → Type 0
Answers (Ok program) checked of_name = (exceeded checked ≡ None)
    × (plain_program program ≡ grounded checked of_name)
Answers (Err (refused.TooLarge limit)) checked of_name = exceeded checked ≡ Some limit
Answers (Err refused.OutOfMemory) checked of_name = Unit {0}
