-- Public contracts speak by this: what the code lends of a statement.
use Rattle.ground_rules.specs.declared.clause.Clause.{Clause as LentClause}
use Rattle.ground_rules.specs.Assignments.{Clause}
use Rattle.ground_rules.specs.Declarations.{clause_by}

abbrev pub clause_of : LentClause → Clause
clause_of lent = clause_by lent.known.now lent.form.now
