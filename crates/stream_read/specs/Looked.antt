-- For private functions alone: what a look-up has after each argument of a name. `entities_named`
-- and `number_of` of `ground_names` say what it comes to.
use Rattle.std.specs.Prelude.{ℕ, ◌+◌, ◌*◌, List, [], ◌∷◌, length, Option, Some, None, option_map}
use Rattle.std.specs.Prelude.{option_and_then}
use Rattle.ground_types.specs.declared.program.Domain.{Domain}
use Rattle.ground_types.specs.Words.{place_in, entities_of}
use Rattle.ground_names.specs.Counted.{capped}

-- one argument more, over the domain of this number; the greatest u64 where the place is more
abbrev pub further : List Domain → ℕ → ℕ → List ℕ → Option ℕ
further domains place d word =
    option_map (λ entity. capped (place * length (entities_of domains d) + entity))
    (place_in (entities_of domains d) word)

-- the arguments that are left, over the domains that are left, from the place of those before them
abbrev pub place_from : List Domain → ℕ → List ℕ → List (List ℕ) → Option ℕ
place_from domains place [] [] = Some place
place_from domains place (d ∷ ds) (word ∷ words) =
    option_and_then (λ next. place_from domains next ds words) (further domains place d word)
place_from domains place ds words = None
