-- Public contracts speak by this: words in lists, and the declarations of a program by their words.
use Rattle.std.specs.Prelude.{ℕ, Bool, List, [], map, find, position, slice_get, slice_index_or}
use Rattle.std.specs.Prelude.{Option, Some, None}
use Rattle.std.specs.List.{list_any}
use Rattle.std.specs.Str.{bytes_eq}
use Rattle.ground_types.specs.declared.program.Domain.{Domain}
use Rattle.ground_types.specs.declared.program.Name.{Name}

-- the word stands in the list
abbrev pub has : List (List ℕ) → List ℕ → Bool
has words word = list_any (λ other. bytes_eq other word) words

-- the place of the word in the list, from 0
abbrev pub place_in : List (List ℕ) → List ℕ → Option ℕ
place_in words word = position (λ other. bytes_eq other word) words

abbrev pub domain_words : List Domain → List (List ℕ)
domain_words domains = map (λ domain. domain.word) domains

abbrev pub name_words : List Name → List (List ℕ)
name_words names = map (λ name. name.word) names

-- the declaration of a name
abbrev pub declaration : List Name → List ℕ → Option Name
declaration names word = find (λ name. bytes_eq name.word word) names

abbrev pub entities_in : Option Domain → List (List ℕ)
entities_in None = []
entities_in (Some domain) = domain.entities

-- the entities of the domain of this number
abbrev pub entities_of : List Domain → ℕ → List (List ℕ)
entities_of domains d = entities_in (slice_get domains d)

-- the word of an entity, from the numbers of its domain and of itself there; empty where there is
-- none
abbrev pub entity_word : List Domain → ℕ × ℕ → List ℕ
entity_word domains place = slice_index_or (entities_of domains place.0) place.1 []
