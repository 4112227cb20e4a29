-- For private functions alone: the records that a reader of a text has left.
use Rattle.std.specs.Prelude.{◌≡◌, ℕ, ◌+◌, Bool, true, false, List, [], ◌∷◌, length, Option, Some}
use Rattle.std.specs.Prelude.{None, IsSome}
use Rattle.std.specs.Borrow.{Bor}
use Rattle.csv.specs.Reading.{records_from, default_config, source_of, reader_trim, reader_config}
use Rattle.csv.specs.Reading.{reader_state, is_flexible, Ready}
use Rattle.csv.specs.declared.parser.State.{State}
use Rattle.csv.specs.declared.reader.Reader.{Reader}
use Rattle.csv.specs.declared.reader.Trim.TheVariants as trim

-- a reader of a text in memory
abbrev pub TextReader : Type 0
TextReader = Reader (Bor (List ℕ))

-- what a text in memory gives
abbrev pub given : Bor (List ℕ) → Option (List ℕ)
given text = Some text.now

-- the records from a state and the bytes that are left there
abbrev pub rest_of : State → List ℕ → List (List (List ℕ))
rest_of state bytes = records_from default_config (length bytes + 1) state bytes

abbrev pub rest_by : State → Option (List ℕ) → List (List (List ℕ))
rest_by state None = []
rest_by state (Some bytes) = rest_of state bytes

-- the records that a reader has left
abbrev pub left : TextReader → List (List (List ℕ))
left reader = rest_by (reader_state reader) (source_of given reader)

-- a reader that reads records of any length as they stand, without a header row, and has not failed
pub record IsReading (reader : TextReader) : Type 0 where
  pub trim : reader_trim reader ≡ trim.None
  pub config : reader_config reader ≡ default_config
  pub flexible : is_flexible reader ≡ true
  pub ready : Ready reader
  pub known : IsSome (source_of given reader)

-- these are the fields of the first record that was left, or none was left
abbrev pub Took : Bool → List (List ℕ) → TextReader → TextReader → Type 0
Took true fields before after = IsReading after × (left before ≡ fields ∷ left after)
Took false fields before after = left before ≡ []
