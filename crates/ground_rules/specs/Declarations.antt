-- Public contracts speak by this: a statement over declarations that are looked up.
use Rattle.rule_forms.specs.declared.form.Form.{Form}
use Rattle.rule_forms.specs.Forms.{plain_form}
use Rattle.decl_known.specs.declared.known.Known.{Known}
use Rattle.ground_rules.specs.Assignments.{Clause}

abbrev pub clause_by : Known → Form → Clause
clause_by known form = record {
  domains = known.domains.now;
  names = known.names.now;
  form = plain_form form;
}
