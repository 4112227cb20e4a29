-- What the rows of a walk show of what is given.
use Rattle.std.proofs.Common.{◌≡◌, ◌∙◌, Bool, true, false, refl, ap, List, [], ◌∷◌}
use Rattle.std.proofs.Common.{◌++◌, Option, Some, None, codes}
use Rattle.std.specs.Prelude.{option_map, is_some, if◌then◌else◌}
use Rattle.std.specs.Str.{bytes_eq}
use Rattle.clap.specs.Walk.{Row, Rule, Text, used, has_row, with_values, without}
use Rattle.clap.specs.Simple.{with_index, filled}
use Rattle.clap.specs.declared.builder.value_parser.Reading.{Reading}
use Rattle.clap.specs.declared.builder.value_parser.Reading.TheVariants.{AsWritten}
use Rattle.clap.specs.declared.parser.matches.ValueSource.TheVariants.{CommandLine}
use Rattle.command_words.specs.Words.{Given, with_place}
use Rattle.command_words.specs.Matching.{places_rule, valued_rule, flag_rule, listed}
use Rattle.command_words.proofs.Rows.{pick, other_kept, same_added, none_without, has_row_is, added}

-- the arguments as building leaves them
abbrev pub places_built : Rule
places_built = with_index 1 (filled places_rule)

abbrev pub workers_built : Rule
workers_built = filled (valued_rule (codes "workers"))

abbrev pub feeders_built : Rule
feeders_built = filled (valued_rule (codes "feeders"))

abbrev pub full_built : Rule
full_built = filled (flag_rule (codes "full"))

abbrev pub values : List Text → Reading × List Text
values texts = (AsWritten, texts)

abbrev pub one_value : Option Text → Option (Reading × List Text)
one_value given = option_map (λ v. values (v ∷ [])) given

abbrev pub flag_value : Bool → Option (Reading × List Text)
flag_value is_full = if is_full then Some (values (codes "true" ∷ [])) else None

pub record Shows (rows : List Row) (given : Given) : Type 0 where
  pub places : pick (codes "places") rows ≡ option_map values (listed given.places)
  pub workers : pick (codes "workers") rows ≡ one_value given.workers
  pub feeders : pick (codes "feeders") rows ≡ one_value given.feeders
  pub full : pick (codes "full") rows ≡ flag_value given.is_full

more_listed : (word : Text) (words : List Text)
    → Some (added AsWritten (word ∷ []) (option_map values (listed words)))
    ≡ option_map values (listed (words ++ word ∷ []))
more_listed word [] = refl
more_listed word (first ∷ words) = refl

-- one more place
pub place_shown : (rows : List Row) (given : Given) (word : Text) → Shows rows given
    → Shows (used places_built (word ∷ []) rows) (with_place word given)
place_shown rows given word shows = record {
  places = same_added (codes "places") AsWritten CommandLine (word ∷ []) rows
      ∙ ap (λ p. Some (added AsWritten (word ∷ []) p)) shows.places
      ∙ more_listed word given.places;
  workers = other_kept (codes "places") (codes "workers") AsWritten CommandLine (word ∷ []) rows
      refl
      ∙ shows.workers;
  feeders = other_kept (codes "places") (codes "feeders") AsWritten CommandLine (word ∷ []) rows
      refl
      ∙ shows.feeders;
  full = other_kept (codes "places") (codes "full") AsWritten CommandLine (word ∷ []) rows refl
      ∙ shows.full;
}

-- values of an argument that was not used
abbrev first_use : Text → List Text → List Row → List Row
first_use id texts rows = with_values id AsWritten CommandLine texts (without id rows)

other_shown : (id other : Text) (texts : List Text) (rows : List Row) → pick id rows ≡ None
    → bytes_eq id other ≡ false → pick other (first_use id texts rows) ≡ pick other rows
other_shown id other texts rows none apart =
    ap (λ rs. pick other (with_values id AsWritten CommandLine texts rs))
    (none_without id rows none)
    ∙ other_kept id other AsWritten CommandLine texts rows apart

own_shown : (id : Text) (texts : List Text) (rows : List Row) → pick id rows ≡ None
    → pick id (first_use id texts rows) ≡ Some (values texts)
own_shown id texts rows none =
    ap (λ rs. pick id (with_values id AsWritten CommandLine texts rs)) (none_without id rows none)
    ∙ same_added id AsWritten CommandLine texts rows
    ∙ ap (λ p. Some (added AsWritten texts p)) none

pub workers_shown : (rows : List Row) (given : Given) (value : Text) → Shows rows given
    → given.workers ≡ None
    → Shows (used workers_built (value ∷ []) rows) (record given { workers = Some value })
workers_shown rows given value shows none =
    let free : pick (codes "workers") rows ≡ None = shows.workers ∙ ap one_value none in record {
      places = other_shown (codes "workers") (codes "places") (value ∷ []) rows free refl
          ∙ shows.places;
      workers = own_shown (codes "workers") (value ∷ []) rows free;
      feeders = other_shown (codes "workers") (codes "feeders") (value ∷ []) rows free refl
          ∙ shows.feeders;
      full = other_shown (codes "workers") (codes "full") (value ∷ []) rows free refl
          ∙ shows.full;
    }

pub feeders_shown : (rows : List Row) (given : Given) (value : Text) → Shows rows given
    → given.feeders ≡ None
    → Shows (used feeders_built (value ∷ []) rows) (record given { feeders = Some value })
feeders_shown rows given value shows none =
    let free : pick (codes "feeders") rows ≡ None = shows.feeders ∙ ap one_value none in record {
      places = other_shown (codes "feeders") (codes "places") (value ∷ []) rows free refl
          ∙ shows.places;
      workers = other_shown (codes "feeders") (codes "workers") (value ∷ []) rows free refl
          ∙ shows.workers;
      feeders = own_shown (codes "feeders") (value ∷ []) rows free;
      full = other_shown (codes "feeders") (codes "full") (value ∷ []) rows free refl
          ∙ shows.full;
    }

pub full_shown : (rows : List Row) (given : Given) → Shows rows given → given.is_full ≡ false
    → Shows (used full_built [] rows) (record given { is_full = true })
full_shown rows given shows none =
    let free : pick (codes "full") rows ≡ None = shows.full ∙ ap flag_value none in record {
      places = other_shown (codes "full") (codes "places") (codes "true" ∷ []) rows free refl
          ∙ shows.places;
      workers = other_shown (codes "full") (codes "workers") (codes "true" ∷ []) rows free refl
          ∙ shows.workers;
      feeders = other_shown (codes "full") (codes "feeders") (codes "true" ∷ []) rows free refl
          ∙ shows.feeders;
      full = own_shown (codes "full") (codes "true" ∷ []) rows free;
    }

-- whether an argument was used
pub workers_used : (rows : List Row) (given : Given) → Shows rows given
    → has_row (codes "workers") rows ≡ is_some given.workers
workers_used rows given shows =
    has_row_is (codes "workers") rows ∙ ap is_some shows.workers ∙ go given.workers
  where
    go : (v : Option Text) → is_some (one_value v) ≡ is_some v
    go None = refl
    go (Some value) = refl

pub feeders_used : (rows : List Row) (given : Given) → Shows rows given
    → has_row (codes "feeders") rows ≡ is_some given.feeders
feeders_used rows given shows =
    has_row_is (codes "feeders") rows ∙ ap is_some shows.feeders ∙ go given.feeders
  where
    go : (v : Option Text) → is_some (one_value v) ≡ is_some v
    go None = refl
    go (Some value) = refl

pub full_used : (rows : List Row) (given : Given) → Shows rows given
    → has_row (codes "full") rows ≡ given.is_full
full_used rows given shows =
    has_row_is (codes "full") rows ∙ ap is_some shows.full ∙ go given.is_full
  where
    go : (b : Bool) → is_some (flag_value b) ≡ b
    go true = refl
    go false = refl
