-- For private functions alone: what the code lends of an instance, and what it asks of a name.
use Rattle.std.specs.Prelude.{Bool, false, Option, Some, None}
use Rattle.ground_types.specs.Sound.{is_input}
use Rattle.ground_types.specs.declared.program.Name.{Name}
use Rattle.ground_types.specs.declared.program.Rule.{Rule}
use Rattle.rule_forms.specs.Forms.{PlainForm}
use Rattle.ground_rules.specs.declared.instance.Instance.{Instance as LentInstance}
use Rattle.ground_rules.specs.declared.instance.Part.{Part}
use Rattle.ground_rules.specs.declared.instance.Part.TheVariants as part
use Rattle.ground_rules.specs.Assignments.{Instance}
use Rattle.ground_rules.specs.Clauses.{clause_of}
use Rattle.ground_rules.specs.Grounded.{initiation_by, termination_by, occurrence_by}

abbrev pub instance_of : LentInstance → Instance
instance_of lent = record { clause = clause_of lent.clause.now; assignment = lent.assignment.now }

abbrev pub rule_by : Part → Instance → PlainForm → Option Rule
rule_by part.Initiation i form = initiation_by i form
rule_by part.Termination i form = termination_by i form
rule_by part.Occurrence i form = occurrence_by i form

abbrev pub is_input_by : Option Name → Bool
is_input_by None = false
is_input_by (Some name) = is_input name.kind
