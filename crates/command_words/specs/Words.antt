-- Public contracts speak by this: the words of commands, and what they ask for. All of it is our
-- own.
use Rattle.std.specs.Prelude.{ℕ, ◌+◌, nat_le, Bool, true, false, not, ◌==◌, ◌&&◌, ◌||◌}
use Rattle.std.specs.Prelude.{if◌then◌else◌, List, [], ◌∷◌, ◌++◌, length, take, drop, map, codes}
use Rattle.std.specs.Prelude.{Option, Some, None, is_some, option_and_then, option_map}
use Rattle.std.specs.Borrow.{Bor}
use Rattle.std.specs.List.{list_all, list_any, before_first, after_first}
use Rattle.std.specs.Str.{bytes_eq, IsUtf8}
use Rattle.std.specs.Str.Parse.{digits_value}
use Rattle.std.specs.Char.{is_ascii_digit}
use Rattle.command_words.specs.declared.task.Task.{Task as LentTask}
use Rattle.command_words.specs.declared.task.Task.TheVariants as lent

abbrev pub Text : Type 0
Text = List ℕ

-- the texts behind references
abbrev pub texts : List (Bor Text) → List Text
texts = map (λ word. word.now)

-- each word is text
abbrev pub AreTexts : List Text → Type 0
AreTexts [] = Unit {0}
AreTexts (word ∷ words) = IsUtf8 word × AreTexts words

-- ---- options and files

-- what the words after the command word give: files and other words in their places, and the value
-- of each option
pub record Given : Type 0 where
  pub places : List Text
  pub workers : Option Text
  pub feeders : Option Text
  pub is_full : Bool

abbrev pub nothing_given : Given
nothing_given = record { places = []; workers = None; feeders = None; is_full = false }

-- the options that have a value
pub data Valued : Type 0 where
  Workers : Valued
  Feeders : Valued

-- an option is given once at most
abbrev pub once : Option Text → Text → (Option Text → Given) → Option Given
once None value with = Some (with (Some value))
once (Some before) value with = None

abbrev pub with_value : Valued → Text → Given → Option Given
with_value Workers value given = once given.workers value (λ v. record given { workers = v })
with_value Feeders value given = once given.feeders value (λ v. record given { feeders = v })

abbrev pub with_place : Text → Given → Given
with_place word given = record given { places = given.places ++ word ∷ [] }

-- What was read so far: what is given, the option whose value the next word is, and whether a `--`
-- ended the options.
pub record Reading : Type 0 where
  pub given : Given
  pub wants : Option Valued
  pub is_ended : Bool

-- what a word is before a `--`
pub data Shape : Type 0 where
  -- `--`
  Ends : Shape
  -- `--name`, or `--name=value`
  Long : Text → Option Text → Shape
  -- another word that begins with `-` and has a further byte
  Dashed : Shape
  -- any other word, also the empty one and `-`
  Plain : Shape

-- the name of an option stands before the first `=` (61), and a value after it
abbrev pub long_shape : Text → Shape
long_shape [] = Ends
long_shape (c ∷ rest) = Long (before_first (λ x. x == 61) (c ∷ rest))
    (if list_any (λ x. x == 61) (c ∷ rest) then Some (after_first (λ x. x == 61) (c ∷ rest))
    else None)

-- (`-` is 45)
abbrev pub dashed_shape : Text → Shape
dashed_shape [] = Plain
dashed_shape (c ∷ rest) = if c == 45 then long_shape rest else Dashed

abbrev pub shape_of : Text → Shape
shape_of [] = Plain
shape_of (c ∷ rest) = if c == 45 then dashed_shape rest else Plain

-- an option that has a value: it is attached, or it is the next word
abbrev pub valued : Valued → Option Text → Reading → Option Reading
valued option (Some value) reading =
    option_map (λ given. record reading { given = given }) (with_value option value reading.given)
valued option None reading = Some (record reading { wants = Some option })

-- `--full` has no value
abbrev pub flagged : Option Text → Reading → Option Reading
flagged (Some value) reading = None
flagged None reading = if reading.given.is_full then None
    else Some (record reading { given = record reading.given { is_full = true } })

-- an option by its whole name
abbrev pub named : Text → Option Text → Reading → Option Reading
named name value reading = if bytes_eq (codes "workers") name then valued Workers value reading
    else if bytes_eq (codes "feeders") name then valued Feeders value reading
    else if bytes_eq (codes "full") name then flagged value reading
    else None

abbrev pub placed : Text → Reading → Option Reading
placed word reading = Some (record reading { given = with_place word reading.given })

abbrev pub shaped : Shape → Text → Reading → Option Reading
shaped Ends word reading = Some (record reading { is_ended = true })
shaped (Long name value) word reading = named name value reading
shaped Dashed word reading = None
shaped Plain word reading = placed word reading

-- one more word: the value that is wanted, whatever it is, or what its shape says
abbrev pub read_wanted : Option Valued → Text → Reading → Option Reading
read_wanted (Some option) word reading =
    option_map (λ given. record reading { given = given; wants = None })
    (with_value option word reading.given)
read_wanted None word reading = if reading.is_ended then placed word reading
    else shaped (shape_of word) word reading

abbrev pub read_word : Reading → Text → Option Reading
read_word reading word = read_wanted reading.wants word reading

abbrev pub read_words : Option Reading → List Text → Option Reading
read_words reading [] = reading
read_words reading (word ∷ words) =
    read_words (option_and_then (λ r. read_word r word) reading) words

-- no option is left without its value
abbrev pub whole : Reading → Option Given
whole reading = if is_some reading.wants then None else Some reading.given

-- what words after the command word give; None where one of them is refused
abbrev pub given_by : List Text → Option Given
given_by words = option_and_then whole (read_words (Some (record {
  given = nothing_given;
  wants = None;
  is_ended = false;
})) words)

-- ---- numbers

-- one decimal digit or more, and no more than these
abbrev pub are_digits : ℕ → Text → Bool
are_digits most text = list_all is_ascii_digit text && not (length text == 0)
    && nat_le (length text) most

-- a number of at most so many digits, leading zeros allowed, within its bounds, both allowed
abbrev pub number_in : ℕ → ℕ → ℕ → Text → Option ℕ
number_in digits least most text = if are_digits digits text
    && nat_le least (digits_value 10 text) && nat_le (digits_value 10 text) most
    then Some (digits_value 10 text) else None

abbrev pub seed_of : Text → Option ℕ
seed_of text = number_in 20 0 18446744073709551615 text

abbrev pub size_of : Text → Option ℕ
size_of text = number_in 7 1 2097152 text

-- without the option there is one worker
abbrev pub workers_of : Option Text → Option ℕ
workers_of None = Some 1
workers_of (Some text) = number_in 2 1 16 text

-- the option is required
abbrev pub feeders_of : Option Text → Option ℕ
feeders_of None = None
feeders_of (Some text) = number_in 1 1 8 text

-- ---- tasks

-- What words ask for.
pub data Task : Type 0 where
  -- a description, a script, and the number of workers
  Recognise : Text → Text → ℕ → Task
  -- a description
  Ground : Text → Task
  -- a description, the seed, the size, the number of workers, and whether the report is wanted
  -- whole
  Simulate : Text → ℕ → ℕ → ℕ → Bool → Task
  -- a description, the clock's script, the feeders' and the readers' scripts, and the number of
  -- workers
  Live : Text → Text → List Text → List Text → ℕ → Task

-- a task that lends its words
abbrev pub plain_task : LentTask → Task
plain_task (lent.Recognise description script workers) =
    Recognise description.now script.now workers
plain_task (lent.Ground description) = Ground description.now
plain_task (lent.Simulate description seed size workers is_full) =
    Simulate description.now seed size workers is_full
plain_task (lent.Live description clock feeders readers workers) =
    Live description.now clock.now (texts feeders) (texts readers) workers

-- a file name is not empty
abbrev pub is_file : Text → Bool
is_file word = not (length word == 0)

abbrev pub recognise_files : List Text → ℕ → Option Task
recognise_files (description ∷ script ∷ []) workers =
    if is_file description && is_file script then Some (Recognise description script workers)
    else None
recognise_files places workers = None

abbrev pub ground_files : List Text → Option Task
ground_files (description ∷ []) = if is_file description then Some (Ground description) else None
ground_files places = None

abbrev pub simulate_places : List Text → ℕ → Bool → Option Task
simulate_places (description ∷ seed ∷ size ∷ []) workers is_full =
    if is_file description then option_and_then (λ x. option_map (λ n.
    Simulate description x n workers is_full) (size_of size)) (seed_of seed)
    else None
simulate_places places workers is_full = None

-- at least as many scripts as feeders, and at most eight more, which are those of the readers
abbrev pub are_live : List Text → List Text → ℕ → Bool
are_live others scripts feeders = list_all is_file others && list_all is_file scripts
    && nat_le feeders (length scripts) && nat_le (length scripts) (feeders + 8)

abbrev pub live_files : List Text → ℕ → ℕ → Option Task
live_files (description ∷ clock ∷ scripts) feeders workers =
    if are_live (description ∷ clock ∷ []) scripts feeders
    then Some (Live description clock (take feeders scripts) (drop feeders scripts) workers)
    else None
live_files places feeders workers = None

-- options that the command does not have are refused
abbrev pub recognise : Given → Option Task
recognise given = if is_some given.feeders || given.is_full then None
    else option_and_then (recognise_files given.places) (workers_of given.workers)

abbrev pub grounding : Given → Option Task
grounding given = if is_some given.workers || is_some given.feeders || given.is_full then None
    else ground_files given.places

abbrev pub simulate : Given → Option Task
simulate given = if is_some given.feeders then None
    else option_and_then (λ workers. simulate_places given.places workers given.is_full)
    (workers_of given.workers)

abbrev pub live : Given → Option Task
live given = if given.is_full then None
    else option_and_then (λ feeders. option_and_then (live_files given.places feeders)
    (workers_of given.workers)) (feeders_of given.feeders)

-- what a command word asks for with what is given
abbrev pub asked : Text → Given → Option Task
asked command given = if bytes_eq command (codes "recognise") then recognise given
    else if bytes_eq command (codes "ground") then grounding given
    else if bytes_eq command (codes "simulate") then simulate given
    else if bytes_eq command (codes "live") then live given
    else None

-- the task of the words, where they are of a form: the command word is the first
abbrev pub task_of : List Text → Option Task
task_of [] = None
task_of (command ∷ words) = option_and_then (asked command) (given_by words)
