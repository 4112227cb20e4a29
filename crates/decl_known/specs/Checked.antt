-- Public contracts speak by this: what a checked description says, as plain data.
use Rattle.std.specs.Prelude.{List, map}
use Rattle.ground_types.specs.declared.plan.Plan.{Plan}
use Rattle.ground_types.specs.declared.program.Domain.{Domain}
use Rattle.ground_types.specs.declared.program.Name.{Name}
use Rattle.rule_forms.specs.Forms.{PlainStatement, plain}
use Rattle.decl_known.specs.declared.checked.Checked.{Checked}

-- what an accepted description says
pub record PlainChecked : Type 0 where
  pub plan : Plan
  pub domains : List Domain
  pub names : List Name
  pub rules : List PlainStatement

abbrev pub plain_checked : Checked → PlainChecked
plain_checked checked = record {
  plan = checked.plan;
  domains = checked.domains;
  names = checked.names;
  rules = map plain checked.rules;
}
