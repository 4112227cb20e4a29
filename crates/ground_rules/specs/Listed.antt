-- Public contracts speak by this: the instances of a description, listed by the units in their
-- heads.
use Rattle.std.specs.Prelude.{◌≡◌, ℕ, List, map, flat_map, length}
use Rattle.ground_rules.specs.Assignments.{Clause, Instance, instances}
use Rattle.ground_rules.specs.Clauses.{clause_of}
use Rattle.ground_rules.specs.Grounded.{instances_at, clauses}
use Rattle.ground_rules.specs.Limits.{unit_count}
use Rattle.ground_rules.specs.declared.instances.Instances.{Instances}
use Rattle.decl_known.specs.Checked.{PlainChecked}

-- the statements that it is made of
abbrev pub clauses_in : Instances → List Clause
clauses_in listed = map clause_of listed.clauses.items

-- the instances with this unit as head, in the order of the text and then of the assignments
abbrev pub listed_at : Instances → ℕ → List Instance
listed_at listed unit = instances_at unit (flat_map instances (clauses_in listed))

-- the number below which the units stand
abbrev pub unit_bound : Instances → ℕ
unit_bound listed = length listed.origins

-- they are the instances of a description, and its units stand below that number
pub record ListsInstancesOf (listed : Instances) (checked : PlainChecked) : Type 0 where
  pub clauses : clauses_in listed ≡ clauses checked
  pub units : unit_bound listed ≡ unit_count checked.domains checked.names
