-- Public contracts speak by this: what a description declares, or the first rule that it breaks.
-- "Accepted" means here as far as its plan, its declarations and its rules go.
use Rattle.std.specs.Prelude.{◌≡◌, List, map, Option, Some, None, Result, Ok, Err}
use Rattle.ground_types.specs.declared.plan.Plan.{Plan}
use Rattle.ground_types.specs.declared.program.Domain.{Domain}
use Rattle.ground_types.specs.declared.program.Name.{Name}
use Rattle.rule_forms.specs.Forms.{PlainStatement, plain}
use Rattle.decl_known.specs.declared.checked.Checked.{Checked}
use Rattle.decl_known.specs.declared.checked.DeclRefused.{DeclRefused}
use Rattle.decl_known.specs.declared.checked.DeclRefused.TheVariants as refused
use Rattle.domain_decl.specs.Plans.{plan_of}
use Rattle.decl_known.specs.Checked.{PlainChecked, plain_checked}
use Rattle.domain_decl.specs.Contents.{domains_of, names_of, rules_of}
use Rattle.ground_types.specs.Words.{domain_words}
use Rattle.domain_decl.specs.Declarations.{declaration_refusal}
use Rattle.decl_known.specs.Rules.{rule_refusal}

abbrev pub names_declared : List PlainStatement → List Name
names_declared statements = names_of (domain_words (domains_of statements)) statements

-- the first refusal, or the other where there is none
abbrev pub or_else : Option DeclRefused → Option DeclRefused → Option DeclRefused
or_else (Some refusal) other = Some refusal
or_else None other = other

-- the first refusal behind the plan: of a declaration, else of a rule
abbrev pub refusal_behind_plan : List PlainStatement → Option DeclRefused
refusal_behind_plan statements =
    or_else (declaration_refusal statements) (rule_refusal (domains_of statements)
    (names_declared statements) statements)

abbrev pub accept : Plan → List PlainStatement → Option DeclRefused
    → Result PlainChecked DeclRefused
accept plan statements (Some refusal) = Err refusal
accept plan statements None = Ok (record {
  plan = plan;
  domains = domains_of statements;
  names = names_declared statements;
  rules = rules_of statements;
})

abbrev pub checked_with : Option Plan → List PlainStatement → Result PlainChecked DeclRefused
checked_with None statements = Err refused.BadPlan
checked_with (Some plan) statements = accept plan statements (refusal_behind_plan statements)

-- What statements declare, or the first rule that they break: the plan, then declarations, then
-- rules.
abbrev pub checking : List PlainStatement → Result PlainChecked DeclRefused
checking statements = checked_with (plan_of statements) statements

-- what was answered is what checking gives, unless memory ran out
abbrev pub Answers : Result Checked DeclRefused → Result PlainChecked DeclRefused → Type 0
Answers (Ok checked) given = given ≡ Ok (plain_checked checked)
Answers (Err refused.OutOfMemory) given = Unit {0}
Answers (Err refusal) given = given ≡ Err refusal
