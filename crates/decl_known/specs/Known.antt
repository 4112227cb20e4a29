-- For private functions alone: sets of entities, in which words are looked up.
use Rattle.std.specs.Prelude.{◌≡◌, ℕ, true, List, [], slice_get, Option, Some, None}
use Rattle.ground_types.specs.declared.program.Domain.{Domain}
use Rattle.ground_types.specs.Sound.{is_distinct}
use Rattle.word_table.specs.Sets.{IsSetOf}
use Rattle.ground_types.specs.Words.{has, entities_of}

abbrev pub words_in : Option (List (List ℕ)) → List (List ℕ)
words_in None = []
words_in (Some words) = words

-- each set is that of the entities of the domain of its place
abbrev pub AreEntities : List (List (List ℕ)) → List Domain → Type 0
AreEntities sets domains = (d : ℕ) → IsSetOf (words_in (slice_get sets d)) (entities_of domains d)
