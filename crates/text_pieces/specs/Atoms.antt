-- Public contracts speak by this: the atoms of ground events and units, as they are printed:
-- `near(v1,v2)`.
use Rattle.std.specs.Prelude.{ℕ, List, [], ◌∷◌, ◌++◌, map, flat_map, zip, slice_get}
use Rattle.std.specs.Prelude.{codes, Option, Some, None}
use Rattle.ground_types.specs.declared.program.Domain.{Domain}
use Rattle.ground_types.specs.declared.program.Name.{Name}
use Rattle.ground_types.specs.declared.program.Unit.{Unit}
use Rattle.ground_types.specs.declared.program.Program.{Program}
use Rattle.ground_types.specs.Words.{entity_word}

-- the words of arguments over the domains of these numbers
abbrev pub entity_words : List Domain → List ℕ → List ℕ → List (List ℕ)
entity_words domains places args = map (entity_word domains) (zip places args)

-- a word and its arguments: `near(v1,v2)`, or the word alone
abbrev pub atom_text : List ℕ → List (List ℕ) → List ℕ
atom_text word [] = word
atom_text word (arg ∷ args) = word ++ codes "(" ++ arg ++ flat_map (λ other. codes "," ++ other)
    args ++ codes ")"

-- the atom of a name with these arguments
abbrev pub atom_by : List Domain → Name → List ℕ → List ℕ
atom_by domains name args = atom_text name.word (entity_words domains name.args args)

-- the same where there is a name, as each unit of a program has
abbrev pub named_atom : List Domain → Option Name → List ℕ → List ℕ
named_atom domains None args = []
named_atom domains (Some name) args = atom_by domains name args

-- the atom of a unit
abbrev pub unit_atom : Program → Unit → List ℕ
unit_atom program unit = named_atom program.domains (slice_get program.names unit.name) unit.args
