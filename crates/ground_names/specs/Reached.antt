-- For private functions alone: how far words lead, word by word.
use Rattle.std.specs.Prelude.{ℕ, ◌+◌, ◌*◌, ◌==◌, if◌then◌else◌, List, fold, length, position}
use Rattle.std.specs.Prelude.{slice_get, Option, Some, None, option_map, option_and_then}
use Rattle.std.specs.Str.{bytes_eq}
use Rattle.ground_types.specs.declared.program.Name.{Name}
use Rattle.ground_types.specs.declared.program.NameKind.{NameKind}
use Rattle.ground_types.specs.declared.program.Program.{Program}
use Rattle.ground_types.specs.Words.{place_in, declaration, entities_of}
use Rattle.ground_names.specs.Numbers.{number_of}
use Rattle.ground_names.specs.Counted.{capped}
use Rattle.ground_names.specs.Found.{Asked, entities_named}
use Rattle.ground_names.specs.declared.finder.Reached.{Reached}

-- the place of the name, and no argument yet
abbrev pub begun : Program → List ℕ → Option Reached
begun program word = option_map (λ name. record { name = name; count = 0; place = 0 })
    (position (λ name. bytes_eq name.word word) program.names)

-- one argument more, over the domain of this number
abbrev pub with_argument : Program → Reached → List ℕ → ℕ → Option Reached
with_argument program reached word domain =
    option_map (λ entity. record {
      name = reached.name;
      count = reached.count + 1;
      place = capped (reached.place * length (entities_of program.domains domain) + entity);
    })
    (place_in (entities_of program.domains domain) word)

-- the domain of the next argument
abbrev pub next_domain : Program → Reached → Option ℕ
next_domain program reached = option_and_then (λ name. slice_get name.args reached.count)
    (slice_get program.names reached.name)

-- one argument more, if it is an entity of its domain and the name has so many
abbrev pub stepped : Program → Option Reached → List ℕ → Option Reached
stepped program None word = None
stepped program (Some reached) word = option_and_then (with_argument program reached word)
    (next_domain program reached)

-- how far a name and its arguments lead
abbrev pub how_far : Asked → Option Reached
how_far asked = fold (stepped asked.program) (begun asked.program asked.word) asked.args

abbrev pub number_by : Reached → Name → Option (NameKind × ℕ)
number_by reached name = if reached.count == length name.args
    then Some (name.kind, name.first + reached.place) else None

-- the kind and the number of the ground event or unit, if the name has no further argument
abbrev pub number_at : Program → Reached → Option (NameKind × ℕ)
number_at program reached = option_and_then (number_by reached)
    (slice_get program.names reached.name)

abbrev pub number_with : Program → List (List ℕ) → Name → Option (NameKind × ℕ)
number_with program args name = option_map (λ number. (name.kind, number))
    (option_and_then (number_of program.domains name) (entities_named program.domains name.args
    args))

-- the kind and the number of the ground event or unit that the words name
abbrev pub named : Asked → Option (NameKind × ℕ)
named asked = option_and_then (number_with asked.program asked.args)
    (declaration asked.program.names asked.word)
