-- For private functions alone: the command of `clap` by which words are read, and what its matches
-- say.
use Rattle.std.specs.Prelude.{◌≡◌, ℕ, Bool, true, false, ◌==◌, ◌||◌, List, [], ◌∷◌}
use Rattle.std.specs.Prelude.{◌^◌, ◌+◌, ◌&&◌, nat_lt, nat_le, if◌then◌else◌, codes, Option, Some}
use Rattle.std.specs.Prelude.{None, option_map, length}
use Rattle.std.specs.Borrow.{Bor}
use Rattle.std.specs.List.{list_all}
use Rattle.std.specs.Char.{is_ascii_digit}
use Rattle.std.specs.Str.Parse.{digits_value}
use Rattle.clap.specs.Words.{App, Rule, new_app, new_rule, with_rule, found_of, first_value}
use Rattle.clap.specs.Words.{one_text}
use Rattle.clap.specs.Words.{matched_of, raw_values}
use Rattle.clap.specs.Simple.{on_top}
use Rattle.clap.specs.declared.builder.action.ArgAction.TheVariants.{Append, SetTrue}
use Rattle.clap.specs.declared.parser.matches.ArgMatches.{ArgMatches}
use Rattle.command_words.specs.Words.{Text, texts, is_file, Given}
use Rattle.command_words.specs.declared.given.Given.{Given as LentGiven}

-- files and other words in their places, of which there may be any number
abbrev pub places_rule : Rule
places_rule = record (new_rule (codes "places")) { action = Some Append }

-- an option that has a value
abbrev pub valued_rule : Text → Rule
valued_rule name = record (new_rule name) { long = Some name }

-- an option that has none
abbrev pub flag_rule : Text → Rule
flag_rule name = record (new_rule name) { long = Some name; action = Some SetTrue }

abbrev pub bare : App
bare = on_top (λ s. record s { disable_help_flag = true }) (new_app (codes "rtec"))

abbrev pub grammar : App
grammar = with_rule (with_rule (with_rule (with_rule bare places_rule)
    (valued_rule (codes "workers"))) (valued_rule (codes "feeders"))) (flag_rule (codes "full"))

-- the words, of which there may be none
abbrev pub listed : List Text → Option (List Text)
listed [] = None
listed (word ∷ words) = Some (word ∷ words)

abbrev pub flag_text : Bool → Text
flag_text is_full = if is_full then codes "true" else codes "false"

-- the matches have what is given
pub record Holds (matches : ArgMatches) (given : Given) : Type 0 where
  pub places : option_map raw_values (matched_of (found_of matches) (codes "places"))
      ≡ listed given.places
  pub workers : first_value (found_of matches) (codes "workers") ≡ given.workers
  pub feeders : first_value (found_of matches) (codes "feeders") ≡ given.feeders
  pub full : one_text (found_of matches) (codes "full") ≡ Some (flag_text given.is_full)

-- a value that begins with `-` (45) is no number
abbrev pub is_dashed : Text → Bool
is_dashed [] = false
is_dashed (c ∷ rest) = c == 45

abbrev pub has_dash : Option Text → Bool
has_dash None = false
has_dash (Some value) = is_dashed value

-- nothing is given, or an option has a value that is no number
abbrev pub IsDoubtful : Option Given → Type 0
IsDoubtful None = Unit {0}
IsDoubtful (Some given) = (has_dash given.workers || has_dash given.feeders) ≡ true

-- the matches have what is given, or there are none and it comes to no task
abbrev pub AreMatches : Option Given → Option ArgMatches → Type 0
AreMatches given None = IsDoubtful given
AreMatches None (Some matches) = ⊥
AreMatches (Some given) (Some matches) = Holds matches given

abbrev pub lent_places : Option (Bor (List (Bor Text))) → List Text
lent_places None = []
lent_places (Some words) = texts words.now

-- what is given, as it is lent
abbrev pub plain_given : LentGiven → Given
plain_given given = record {
  places = lent_places given.places;
  workers = option_map (λ v. v.now) given.workers;
  feeders = option_map (λ v. v.now) given.feeders;
  is_full = given.is_full;
}

-- one digit or more
pub record Digits (text : Text) : Type 0 where
  pub all : list_all is_ascii_digit text ≡ true
  pub some : (length text == 0) ≡ false

-- the number that digits write, where it has 64 bits
abbrev pub value_of : Text → Option ℕ
value_of text = if nat_lt (digits_value 10 text) (2 ^ 64) then Some (digits_value 10 text) else None

-- the files of `live`, as they are lent
abbrev pub are_lent_live : Text → Text → List (Bor Text) → ℕ → Bool
are_lent_live description clock scripts feeders = is_file description && is_file clock
    && list_all (λ word. is_file word.now) scripts && nat_le feeders (length scripts)
    && nat_le (length scripts) (feeders + 8)
