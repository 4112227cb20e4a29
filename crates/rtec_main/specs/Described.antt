-- Public contracts speak by this: what a text is as a description.
use Rattle.std.specs.Prelude.{◌≡◌, ℕ, List, length, Some, None, Ok, Err}
use Rattle.rt_base.specs.declared.limit.Limit.{Limit}
use Rattle.ground_types.specs.declared.program.Program.{Program}
use Rattle.rule_forms.specs.Forms.{PlainStatement}
use Rattle.rule_read.specs.Whole.{reading, TooLong as LongText, BadByte, BadStatement, Statements}
use Rattle.decl_known.specs.Checked.{PlainChecked}
use Rattle.domain_decl.specs.Accepted.{checking}
use Rattle.decl_known.specs.declared.checked.DeclRefused.{DeclRefused}
use Rattle.decl_known.specs.declared.checked.DeclRefused.TheVariants as refused
use Rattle.decl_known.specs.Layers.{IsLayering}
use Rattle.decl_known.specs.Occurrences.{NoneBefore, IsFirstCycle}
use Rattle.ground_rules.specs.Grounded.{plain_program, grounded}
use Rattle.ground_rules.specs.Limits.{exceeded}
use Rattle.run_status.specs.declared.status.DescFault.{DescFault}
use Rattle.run_status.specs.declared.status.DescFault.TheVariants as fault

-- It is longer than one may be, or faulty, or it exceeds a limit, or it has statements, which
-- declare something, and layers of the names that are declared.
pub data Described : Type 0 where
  TooLong : Described
  Faulty : DescFault → Described
  Exceeds : Limit → Described
  Describes : List PlainStatement → PlainChecked → List ℕ → Described

-- the text spells statements that a rule on plan, declarations and rules refuses
abbrev pub IsRefused : List ℕ → DeclRefused → Type 0
IsRefused text refusal = (statements : List PlainStatement)
    × (reading text ≡ Statements statements) × (checking statements ≡ Err refusal)

-- the text spells statements, which declare this
abbrev pub Declares : List ℕ → List PlainStatement → PlainChecked → Type 0
Declares text statements checked = (reading text ≡ Statements statements)
    × (checking statements ≡ Ok checked)

-- no name reaches itself, and these are the layers of the names
abbrev pub HasLayers : PlainChecked → List ℕ → Type 0
HasLayers checked of_name = NoneBefore checked.rules checked.names (length checked.names)
    × IsLayering checked.rules checked.names of_name

abbrev pub IsFaulty : List ℕ → DescFault → Type 0
IsFaulty text (fault.BadByte line) = reading text ≡ BadByte line
IsFaulty text (fault.BadStatement line) = reading text ≡ BadStatement line
IsFaulty text fault.BadPlan = IsRefused text refused.BadPlan
IsFaulty text (fault.TooMany line) = IsRefused text (refused.TooMany line)
IsFaulty text (fault.Undeclared line) = IsRefused text (refused.Undeclared line)
IsFaulty text (fault.Twice line) = IsRefused text (refused.Twice line)
IsFaulty text (fault.NoTrigger line) = IsRefused text (refused.NoTrigger line)
IsFaulty text (fault.WrongKind line) = IsRefused text (refused.WrongKind line)
IsFaulty text (fault.Arity line) = IsRefused text (refused.Arity line)
IsFaulty text (fault.Clash line) = IsRefused text (refused.Clash line)
IsFaulty text (fault.Loose line) = IsRefused text (refused.Loose line)
IsFaulty text (fault.Cyclic line) =
    (statements : List PlainStatement) × (checked : PlainChecked) × (place : ℕ)
    × Declares text statements checked
    × IsFirstCycle checked.rules checked.names place line

-- Its statements are read, then checked; then the layers are looked for, and then the limits are
-- tested.
abbrev pub IsDescribed : List ℕ → Described → Type 0
IsDescribed text TooLong = reading text ≡ LongText
IsDescribed text (Faulty why) = IsFaulty text why
IsDescribed text (Exceeds limit) =
    (statements : List PlainStatement) × (checked : PlainChecked) × (of_name : List ℕ)
    × Declares text statements checked
    × HasLayers checked of_name × (exceeded checked ≡ Some limit)
IsDescribed text (Describes statements checked of_name) =
    Declares text statements checked × HasLayers checked of_name × (exceeded checked ≡ None)

-- the program has the instances of the statements
abbrev pub IsProgramOf : PlainChecked → List ℕ → Program → Type 0
IsProgramOf checked of_name program = plain_program program ≡ grounded checked of_name
