-- Public contracts speak by this: the limits on what a description comes to, in the order in which
-- they are tested.
use Rattle.std.specs.Prelude.{ℕ, ◌+◌, ◌*◌, nat_lt, Bool, true, false, List, [], ◌∷◌, ◌++◌, filter}
use Rattle.std.specs.Prelude.{length, sum_by, Option, Some, None, if◌then◌else◌}
use Rattle.rt_base.specs.declared.limit.Limit.{Limit}
use Rattle.rt_base.specs.declared.limit.Limit.TheVariants as limit
use Rattle.ground_types.specs.Sound.{is_input, arguments_of}
use Rattle.ground_types.specs.declared.program.Domain.{Domain}
use Rattle.ground_types.specs.declared.program.Name.{Name}
use Rattle.ground_types.specs.declared.program.NameKind.{NameKind}
use Rattle.ground_types.specs.declared.program.NameKind.TheVariants as name_kind
use Rattle.rule_forms.specs.declared.form.Body.{Body}
use Rattle.rule_forms.specs.declared.form.Body.TheVariants as body
use Rattle.rule_forms.specs.Forms.{PlainForm, Initially, conditions_of}
use Rattle.decl_known.specs.Checked.{PlainChecked}
use Rattle.decl_known.specs.Mentions.{leaves_of}
use Rattle.ground_rules.specs.Assignments.{Clause, assignments, instances}
use Rattle.ground_rules.specs.Grounded.{event_count, clauses}

abbrev pub unit_count : List Domain → List Name → ℕ
unit_count domains names = sum_by (λ name. if is_input name.kind then 0
    else length (arguments_of domains name)) names

-- rows: the values of each ground fluent, and each ground derived event
abbrev pub rows_of_unit : NameKind → List (List ℕ) → ℕ
rows_of_unit name_kind.Input values = 0
rows_of_unit name_kind.Derived values = 1
rows_of_unit kind values = length values

abbrev pub row_count : List Domain → List Name → ℕ
row_count domains names = sum_by (λ name. length (arguments_of domains name) * rows_of_unit
    name.kind name.values) names

abbrev pub assignment_count : List Clause → ℕ
assignment_count clauses = sum_by (λ clause. length (assignments clause)) clauses

-- an instance of a rule or of a holdsFor statement counts, one of `initially` does not
abbrev pub counts_as_rule : PlainForm → Bool
counts_as_rule (Initially fv) = false
counts_as_rule form = true

abbrev pub rules_in : Clause → ℕ
rules_in clause = if counts_as_rule clause.form then length (instances clause) else 0

abbrev pub rule_count : List Clause → ℕ
rule_count clauses = sum_by rules_in clauses

abbrev pub is_condition : Body → Bool
is_condition (body.Unequal x y) = false
is_condition condition = true

-- how many conditions other than X \= Y a statement has, or leaves in its expression
abbrev pub conditions_in : PlainForm → ℕ
conditions_in form = length (filter is_condition (conditions_of form)) + length (leaves_of form)

abbrev pub condition_count : List Clause → ℕ
condition_count clauses = sum_by (λ clause. length (instances clause) * conditions_in clause.form)
    clauses

abbrev pub first_exceeded : List (ℕ × ℕ × Limit) → Option Limit
first_exceeded [] = None
first_exceeded ((count, most, limit) ∷ tests) = if nat_lt most count then Some limit
    else first_exceeded tests

-- the limits on units and ground input events
abbrev pub name_tests : List Domain → List Name → List (ℕ × ℕ × Limit)
name_tests domains names = (unit_count domains names, 65536, limit.Units)
    ∷ (event_count domains names, 16777216, limit.Events) ∷ []

-- the limits on assignments, on instances and on their conditions
abbrev pub clause_tests : List Clause → List (ℕ × ℕ × Limit)
clause_tests all =
    (assignment_count all, 1048576, limit.Assignments) ∷ (rule_count all, 262144, limit.Rules)
    ∷ (condition_count all, 2097152, limit.Conditions) ∷ []

-- the limit on the rows of all queries
abbrev pub row_tests : List Domain → List Name → ℕ → List (ℕ × ℕ × Limit)
row_tests domains names queries = (row_count domains names * queries, 16777216, limit.Cells) ∷ []

-- The first limit that the counts of a description exceed.
abbrev pub exceeded : PlainChecked → Option Limit
exceeded checked = first_exceeded (
    name_tests checked.domains checked.names ++ clause_tests (clauses checked) ++ row_tests
    checked.domains checked.names checked.plan.queries)
