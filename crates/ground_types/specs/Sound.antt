-- Public contracts speak by this: what makes a program sound, every number in it means something,
-- words and order are as declared, and the layers are in order.
use Rattle.std.specs.Prelude.{◌≡◌, ◌≤◌, ℕ, ◌+◌, nat_lt, Bool, true, false, not, ◌&&◌, ◌==◌}
use Rattle.std.specs.Prelude.{if◌then◌else◌, List, [], ◌∷◌, ◌++◌, map, flat_map, length, sum_by}
use Rattle.std.specs.Prelude.{slice_get, Option, Some, None}
use Rattle.std.specs.List.{list_any, list_all, range_with_len, enumerate_from}
use Rattle.std.specs.Str.{bytes_eq}
use Rattle.rt_base.specs.Kinds.{is_name, is_constant}
use Rattle.ground_types.specs.Windows.{IsSoundPlan}
use Rattle.ground_types.specs.Publication.{value_count}
use Rattle.ground_types.specs.Meaning.{IsLayered}
use Rattle.ground_types.specs.declared.program.Trigger.{Trigger}
use Rattle.ground_types.specs.declared.program.Trigger.TheVariants.{Event, Derived, Start, End}
use Rattle.ground_types.specs.declared.program.What.{What}
use Rattle.ground_types.specs.declared.program.What.TheVariants.{Happens, Holds}
use Rattle.ground_types.specs.declared.program.Rule.{Rule}
use Rattle.ground_types.specs.declared.program.Expr.{Expr, Row, Union', Intersect', Complement'}
use Rattle.ground_types.specs.declared.program.Expr.{Row_of-Expr, end_of-Expr, more_of-Expr}
use Rattle.ground_types.specs.declared.program.Unit.{Unit}
use Rattle.ground_types.specs.declared.program.UnitKind.{UnitKind}
use Rattle.ground_types.specs.declared.program.UnitKind.TheVariants as unit_kind
use Rattle.ground_types.specs.declared.program.Domain.{Domain}
use Rattle.ground_types.specs.declared.program.Name.{Name}
use Rattle.ground_types.specs.declared.program.NameKind.{NameKind}
use Rattle.ground_types.specs.declared.program.NameKind.TheVariants as name_kind
use Rattle.ground_types.specs.declared.program.Program.{Program}

-- how many instances of rules, and of expressions of static fluents, a unit has
abbrev pub member_count : {m : _} → Row_of-Expr m → ℕ
member_count end_of-Expr = 0
member_count (more_of-Expr member rest) = 1 + member_count rest

abbrev pub instance_count : Expr → ℕ
instance_count (Row unit v) = 1
instance_count (Union' shape members) = member_count members
instance_count (Intersect' shape members) = 1
instance_count (Complement' p first shape others) = 1

abbrev pub rule_count : UnitKind → ℕ
rule_count (unit_kind.Simple initially initiate terminate) = length initiate + length terminate
rule_count (unit_kind.Static exprs) = sum_by instance_count exprs
rule_count (unit_kind.Derived rules) = length rules

abbrev pub is_fluent : UnitKind → Bool
is_fluent (unit_kind.Simple initially initiate terminate) = true
is_fluent (unit_kind.Static exprs) = true
is_fluent (unit_kind.Derived rules) = false

-- the number of values of a unit
abbrev pub unit_values : Program → Unit → ℕ
unit_values program unit = value_count (slice_get program.names unit.name)

-- what is named as a fluent-value is a value of a fluent
abbrev pub is_fluent_value : Program → Option Unit → ℕ → Bool
is_fluent_value program None v = false
is_fluent_value program (Some unit) v = is_fluent unit.kind && nat_lt v (unit_values program unit)

-- what is named as a derived event is one
abbrev pub is_derived_event : Option Unit → Bool
is_derived_event None = false
is_derived_event (Some unit) = not (is_fluent unit.kind)

abbrev pub trigger_fits : Program → Trigger → Bool
trigger_fits program (Event event) = nat_lt event program.events
trigger_fits program (Derived unit) = is_derived_event (slice_get program.units unit)
trigger_fits program (Start unit v) = is_fluent_value program (slice_get program.units unit) v
trigger_fits program (End unit v) = is_fluent_value program (slice_get program.units unit) v

abbrev pub what_fits : Program → What → Bool
what_fits program (Happens trigger) = trigger_fits program trigger
what_fits program (Holds unit v) = is_fluent_value program (slice_get program.units unit) v

-- a rule for one of so many values
abbrev pub rule_fits : Program → ℕ → Rule → Bool
rule_fits program values rule =
    nat_lt rule.value values && trigger_fits program rule.trigger
    && list_all (λ cond. what_fits program cond.what) rule.conds

-- the fluent-values of an expression are there, and each intersection has a member
abbrev mutual
  pub expr_fits : Program → Expr → Bool
  expr_fits program (Row unit v) = is_fluent_value program (slice_get program.units unit) v
  expr_fits program (Union' shape members) = members_fit program members
  expr_fits program (Intersect' shape members) = not (member_count members == 0)
      && members_fit program members
  expr_fits program (Complement' p first shape others) = expr_fits program first
      && members_fit program others

  pub members_fit : Program → {m : _} → Row_of-Expr m → Bool
  members_fit program end_of-Expr = true
  members_fit program (more_of-Expr member rest) = expr_fits program member && members_fit program
      rest

abbrev pub is_union : Expr → Bool
is_union (Row unit v) = false
is_union (Union' shape members) = true
is_union (Intersect' shape members) = false
is_union (Complement' p first shape others) = false

-- the initial value, if there is one, is one of so many
abbrev pub initial_fits : ℕ → Option ℕ → Bool
initial_fits values None = true
initial_fits values (Some v) = nat_lt v values

-- the rules of a fluent are for its values, a static one has a union for each value, and the rules
-- of a derived event have value 0
abbrev pub kind_fits : Program → ℕ → UnitKind → Bool
kind_fits program values (unit_kind.Simple initially initiate terminate) =
    initial_fits values initially && list_all (rule_fits program values) initiate
    && list_all (rule_fits program values) terminate
kind_fits program values (unit_kind.Static exprs) =
    (length exprs == values) && list_all is_union exprs && list_all (expr_fits program) exprs
kind_fits program values (unit_kind.Derived rules) = list_all (rule_fits program 1) rules

-- a unit has the kind of its name
abbrev pub kind_agrees : NameKind → UnitKind → Bool
kind_agrees name_kind.Simple (unit_kind.Simple initially initiate terminate) = true
kind_agrees name_kind.Static (unit_kind.Static exprs) = true
kind_agrees name_kind.Derived (unit_kind.Derived rules) = true
kind_agrees kind other = false

abbrev pub has_kind_of_name : Option Name → Unit → Bool
has_kind_of_name None unit = false
has_kind_of_name (Some name) unit = kind_agrees name.kind unit.kind

abbrev pub is_input : NameKind → Bool
is_input name_kind.Input = true
is_input kind = false

-- how many entities a domain has, the first of them of number 0
abbrev pub entity_count : Option Domain → ℕ
entity_count None = 0
entity_count (Some domain) = length domain.entities

-- all argument lists over domains of these sizes, in order, the first place slowest
abbrev pub argument_lists : List ℕ → List (List ℕ)
argument_lists [] = [] ∷ []
argument_lists (size ∷ sizes) = flat_map (λ entity. map (λ rest. entity ∷ rest)
    (argument_lists sizes)) (range_with_len 0 size)

-- the sizes of the domains of these numbers
abbrev pub domain_sizes : List Domain → List ℕ → List ℕ
domain_sizes domains numbers = map (λ d. entity_count (slice_get domains d)) numbers

-- all arguments of a name, in order
abbrev pub arguments_of : List Domain → Name → List (List ℕ)
arguments_of domains name = argument_lists (domain_sizes domains name.args)

-- the ground names that are units: by the declaration of the name, then by arguments
abbrev pub unit_heads : Program → List (ℕ × Name) → List (ℕ × List ℕ)
unit_heads program [] = []
unit_heads program (name ∷ rest) =
    (if is_input name.1.kind then [] else map (λ args. (name.0, args))
    (arguments_of program.domains name.1)) ++ unit_heads program rest

-- each name begins where the names of its kind before it end, and the events end with their count
abbrev pub are_numbered : Program → ℕ → ℕ → List Name → Bool
are_numbered program event unit [] = event == program.events
are_numbered program event unit (name ∷ rest) =
    if is_input name.kind
    then (name.first == event) && are_numbered program
    (event + length (arguments_of program.domains name)) unit rest
    else ((name.first == unit) && are_numbered program event
    (unit + length (arguments_of program.domains name)) rest)

-- no word stands twice
abbrev pub is_distinct : List (List ℕ) → Bool
is_distinct [] = true
is_distinct (word ∷ rest) = not (list_any (λ other. bytes_eq word other) rest) && is_distinct rest

abbrev pub are_constants : List (List ℕ) → Bool
are_constants words = list_all is_constant words && is_distinct words

-- the words of domains and names together
abbrev pub declared_words : Program → List (List ℕ)
declared_words program = map (λ domain. domain.word) program.domains ++ map (λ name. name.word)
    program.names

-- a sound program
pub record IsSound (program : Program) : Type 0 where
  pub plan : IsSoundPlan program.plan
  pub units_most : length program.units ≤ 65536
  pub events_most : program.events ≤ 16777216
  pub rules_most : sum_by (λ unit. rule_count unit.kind) program.units ≤ 262144
  -- numbers of domains, and of events, units and values in rules and expressions, are in range and
  -- of the kind that is meant
  pub domain_numbers : list_all (λ name.
      list_all (λ domain. nat_lt domain (length program.domains)) name.args) program.names ≡ true
  pub rule_numbers : list_all (λ unit. kind_fits program (unit_values program unit) unit.kind)
      program.units ≡ true
  pub kinds : list_all (λ unit. has_kind_of_name (slice_get program.names unit.name) unit)
      program.units ≡ true
  -- words are of their kinds, and none stands twice where it may not
  pub names : (list_all is_name (declared_words program) && is_distinct (declared_words program))
      ≡ true
  pub entities : list_all (λ domain. are_constants domain.entities) program.domains ≡ true
  pub values : list_all (λ name. are_constants name.values) program.names ≡ true
  -- units and ground events are in order, without gaps, and entity numbers with them in range
  pub unit_order : map (λ unit. (unit.name, unit.args)) program.units ≡ unit_heads program
      (enumerate_from 0 program.names)
  pub numbering : are_numbered program 0 0 program.names ≡ true
  pub layers : IsLayered program
