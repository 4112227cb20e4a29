-- Public contracts speak by this: the order and the numbers of ground input events and units.
use Rattle.std.specs.Prelude.{ℕ, ◌+◌, List, [], ◌∷◌, length, position, Option, option_map}
use Rattle.std.specs.Prelude.{if◌then◌else◌}
use Rattle.std.specs.Str.{bytes_eq}
use Rattle.ground_types.specs.Sound.{is_input, arguments_of}
use Rattle.ground_types.specs.declared.program.Domain.{Domain}
use Rattle.ground_types.specs.declared.program.Name.{Name}

abbrev pub with_first : ℕ → Name → Name
with_first n name = record {
  word = name.word;
  kind = name.kind;
  args = name.args;
  values =
      name.values;
  first = n;
  line = name.line;
}

-- Names in declared order, each with its first ground event or unit: those of a name follow those
-- of the names of its kind before it. The first two numbers are those at which input events and
-- units go on.
abbrev pub numbered : List Domain → ℕ → ℕ → List Name → List Name
numbered domains event unit [] = []
numbered domains event unit (name ∷ names) =
    let count = length (arguments_of domains name) in
    with_first (if is_input name.kind then event else unit) name
    ∷ numbered domains (if is_input name.kind then event + count else event) (if is_input name.kind
    then unit else unit + count) names

-- the number of the ground event or unit of a numbered name with these arguments, if they are
-- arguments of it
abbrev pub number_of : List Domain → Name → List ℕ → Option ℕ
number_of domains name args = option_map (λ place. name.first + place)
    (position (bytes_eq args) (arguments_of domains name))
