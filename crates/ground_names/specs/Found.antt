-- Public contracts speak by this: what words name in a program.
use Rattle.std.specs.Prelude.{ℕ, ◌^◌, nat_lt, Bool, true, false, List, [], ◌∷◌, slice_get, Option}
use Rattle.std.specs.Prelude.{Some, None, option_map, option_and_then, if◌then◌else◌}
use Rattle.ground_types.specs.Sound.{is_input}
use Rattle.ground_types.specs.declared.program.Domain.{Domain}
use Rattle.ground_types.specs.declared.program.Name.{Name}
use Rattle.ground_types.specs.declared.program.NameKind.{NameKind}
use Rattle.ground_types.specs.declared.program.NameKind.TheVariants as name_kind
use Rattle.ground_types.specs.declared.program.Unit.{Unit}
use Rattle.ground_types.specs.declared.program.Program.{Program}
use Rattle.ground_types.specs.Words.{place_in, declaration, entities_of}
use Rattle.ground_names.specs.Numbers.{number_of}

-- a name and its arguments, in words
pub record Asked : Type 0 where
  pub program : Program
  pub word : List ℕ
  pub args : List (List ℕ)

-- the numbers of entities of the domains of these numbers, if there are as many words and each is
-- one of its domain
abbrev pub entities_named : List Domain → List ℕ → List (List ℕ) → Option (List ℕ)
entities_named domains [] [] = Some []
entities_named domains (d ∷ ds) (word ∷ words) =
    option_and_then (λ entity. option_map (λ rest. entity ∷ rest) (entities_named domains ds
    words)) (place_in (entities_of domains d) word)
entities_named domains ds words = None

-- the ground event or unit of a name that passes a test, with these arguments
abbrev pub number_named : (NameKind → Bool) → List Domain → Option Name → List (List ℕ) → Option ℕ
number_named test domains None args = None
number_named test domains (Some name) args =
    if test name.kind then option_and_then (number_of domains name)
    (entities_named domains name.args args) else None

abbrev pub is_fluent_kind : NameKind → Bool
is_fluent_kind name_kind.Simple = true
is_fluent_kind name_kind.Static = true
is_fluent_kind kind = false

-- the ground input event that the words name
abbrev pub event_named : Asked → Option ℕ
event_named asked = number_named is_input asked.program.domains (declaration asked.program.names
    asked.word) asked.args

-- the ground fluent that the words name
abbrev pub unit_named : Asked → Option ℕ
unit_named asked = number_named is_fluent_kind asked.program.domains
    (declaration asked.program.names asked.word) asked.args

-- (numbers of values have 32 bits; `check` lets a fluent have at most 64 values)
abbrev pub if_small : Option ℕ → Option ℕ
if_small None = None
if_small (Some v) = if nat_lt v (2 ^ 32) then Some v else None

abbrev pub value_by : Option Name → List ℕ → Option ℕ
value_by None word = None
value_by (Some name) word = if is_fluent_kind name.kind then if_small (place_in name.values word)
    else None

abbrev pub name_of_unit : Program → Option Unit → Option Name
name_of_unit program None = None
name_of_unit program (Some unit) = slice_get program.names unit.name

-- the value of a fluent that the word names
abbrev pub value_named : Program → ℕ → List ℕ → Option ℕ
value_named program unit word = value_by (name_of_unit program (slice_get program.units unit)) word
