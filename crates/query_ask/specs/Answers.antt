-- Public contracts speak by this: *Reader's answer*, what is answered to a question over the
-- publications so far.
use Rattle.std.specs.Prelude.{◌≡◌, ℕ, ◌+◌, ◌-◌, nat_lt, nat_le, Bool, true, false, ◌&&◌}
use Rattle.std.specs.Prelude.{if◌then◌else◌, List, [], map, length, slice_get, slice_index_or}
use Rattle.std.specs.Prelude.{Option, Some, None}
use Rattle.ground_types.specs.Windows.{left, right}
use Rattle.ground_types.specs.Rows.{covers}
use Rattle.ground_types.specs.Publication.{PublishedRows, fluent_rows, event_row, Published}
use Rattle.ground_types.specs.Sound.{IsSound, is_fluent_value}
use Rattle.ground_types.specs.declared.plan.Plan.{Plan}
use Rattle.ground_types.specs.declared.entries.Query.{Query}
use Rattle.ground_types.specs.declared.entries.Query.TheVariants as query
use Rattle.ground_types.specs.declared.program.Program.{Program}
use Rattle.query_ask.specs.Right.{Parts, published}
use Rattle.query_ask.specs.declared.answers.Answer.{Answer}
use Rattle.query_ask.specs.declared.answers.Answer.TheVariants as answer

-- what a publication says, as the definitions have it
abbrev pub said : Parts → Published
said parts = record {
  number = parts.number;
  front = parts.front;
  opening = parts.opening;
  events = parts.events;
  rows = map published parts.rows;
}

-- the last member, if there is one
abbrev pub last_of : List Published → Option Published
last_of list = slice_get list (length list - 1)

-- a value point of query k
abbrev pub is_value_point : Plan → ℕ → ℕ → Bool
is_value_point plan k t = nat_lt (left plan k) t && nat_le t (right plan k + 1)

-- the spans of a value of a fluent
abbrev pub spans_of : Option PublishedRows → ℕ → List (ℕ × ℕ)
spans_of None v = []
spans_of (Some (fluent_rows rows)) v = slice_index_or rows v []
spans_of (Some (event_row points)) v = []

abbrev pub yes_if : Bool → Answer
yes_if true = answer.Yes
yes_if false = answer.No

-- yes or no by the row of a fluent-value in what is published
abbrev pub answer_in : Published → ℕ → ℕ → ℕ → Answer
answer_in last unit v t = yes_if (covers (spans_of (slice_get last.rows unit) v) t)

-- whether a fluent has a value at a point, by the last publication, if its window has the point
abbrev pub holds_answer : Plan → Option Published → ℕ → ℕ → ℕ → Answer
holds_answer plan None unit v t = answer.NothingYet
holds_answer plan (Some last) unit v t =
    if is_value_point plan last.number t then answer_in last unit v t
    else answer.Outside (left plan last.number) (right plan last.number)

-- whether the publication of this number is there, among so many
abbrev pub block_answer : ℕ → ℕ → Answer
block_answer have number = if nat_le have number then answer.NotPublished have
    else answer.Block number

-- *Reader's answer* to a question over the publications so far
abbrev pub answered : Plan → List Published → Query → Answer
answered plan list (query.Holds unit v t) = holds_answer plan (last_of list) unit v t
answered plan list query.Count = answer.Number (length list)
answered plan list (query.Block number) = block_answer (length list) number

-- member j is the publication of query j, and all are of the program
pub record AreOfProgram (program : Program) (list : List Parts) : Type 0 where
  pub numbers : (j : ℕ) (parts : Parts) → slice_get list j ≡ Some parts → parts.number ≡ j
  pub programs : (j : ℕ) (parts : Parts) → slice_get list j ≡ Some parts →
      parts.program ≡ program

-- a question for a value is for one of a fluent of the program
abbrev pub is_of_program : Program → Query → Bool
is_of_program program (query.Holds unit v t) = is_fluent_value program
    (slice_get program.units unit) v
is_of_program program query.Count = true
is_of_program program (query.Block number) = true

-- the publications are of one sound program, and so is the question
pub record IsAsked (list : List Parts) (asked : Query) : Type 0 where
  pub program : Program
  pub sound : IsSound program
  pub members : AreOfProgram program list
  pub question : is_of_program program asked ≡ true
