-- Public contracts speak by this: *report text*, what is printed for a list of commands, line by
-- line. It knows nothing of how the lines are made.
use Rattle.std.specs.Prelude.{ℕ, nat_lt, Bool, true, false, not, ◌==◌, if◌then◌else◌, List, [], ◌∷◌}
use Rattle.std.specs.Prelude.{◌++◌, length, flat_map, fold, slice_get, sum_by, count_by, codes}
use Rattle.std.specs.Prelude.{decimal, Option, Some, None}
use Rattle.std.specs.Prelude.{map}
use Rattle.std.specs.List.{range_with_len, zip, slice_index_or}
use Rattle.ground_types.specs.Windows.{left, right}
use Rattle.ground_types.specs.History.{reply_to, seals, is_seal}
use Rattle.ground_types.specs.Publication.{PublishedRows, fluent_rows, event_row, Published}
use Rattle.ground_types.specs.Publication.{publication}
use Rattle.ground_types.specs.Touched.{evaluations}
use Rattle.ground_types.specs.declared.plan.Plan.{Plan}
use Rattle.ground_types.specs.declared.entries.Act.{Act}
use Rattle.ground_types.specs.declared.entries.Act.TheVariants.{Add, Revoke}
use Rattle.ground_types.specs.declared.entries.Reply.{Reply}
use Rattle.ground_types.specs.declared.entries.Reply.TheVariants.{Admitted, Delayed, Already}
use Rattle.ground_types.specs.declared.entries.Reply.TheVariants.{Revoked, DelayedRevoked, Unknown}
use Rattle.ground_types.specs.declared.entries.Reply.TheVariants.{Forgotten}
use Rattle.ground_types.specs.declared.entries.Entry.{Entry}
use Rattle.ground_types.specs.declared.entries.Entry.TheVariants.{Fed, Seal}
use Rattle.ground_types.specs.declared.entries.Command.{Command}
use Rattle.ground_types.specs.declared.entries.Command.TheVariants as command
use Rattle.ground_types.specs.declared.entries.Query.{Query}
use Rattle.ground_types.specs.declared.entries.Query.TheVariants as query
use Rattle.ground_types.specs.declared.program.Domain.{Domain}
use Rattle.ground_types.specs.declared.program.Name.{Name}
use Rattle.ground_types.specs.declared.program.Unit.{Unit}
use Rattle.ground_types.specs.declared.program.Program.{Program}
use Rattle.ground_names.specs.EventAtoms.{event_atoms}
use Rattle.query_ask.specs.Answers.{answered}
use Rattle.query_ask.specs.declared.answers.Answer.{Answer}
use Rattle.query_ask.specs.declared.answers.Answer.TheVariants as answer
use Rattle.text_pieces.specs.Lines.{text_of_lines}
use Rattle.text_pieces.specs.Atoms.{atom_by, unit_atom}

-- the entry of a command after a history: a feed gets its reply, a seal its number, and other
-- commands make none
abbrev pub entries_of : Plan → List Entry → Command → List Entry
entries_of plan before (command.Feed feeder act event at) =
    Fed feeder act event at (reply_to plan before act event at) ∷ []
entries_of plan before command.Seal = Seal (seals before) ∷ []
entries_of plan before (command.Ask query) = []
entries_of plan before (command.Wait count) = []
entries_of plan before (command.After feeder count) = []

abbrev pub history_after : Plan → List Entry → List Command → List Entry
history_after plan before commands = fold (λ history command. history ++ entries_of plan history
    command) before commands

-- the history whose feeds and seals are those of the commands, each with its reply or number; it is
-- legal where there are at most as many seals as queries
abbrev pub history_of : Plan → List Command → List Entry
history_of plan commands = history_after plan [] commands

-- the atom of an event, which has a name in each program
abbrev pub atom_of_event : List Domain → Option (Name × List ℕ) → List ℕ
atom_of_event domains None = []
atom_of_event domains (Some head) = atom_by domains head.0 head.1

-- the atom of a ground input event
abbrev pub event_atom : Program → ℕ → List ℕ
event_atom program event = atom_of_event program.domains (slice_get (event_atoms program) event)

-- the words of the values of a unit, which has a name in each program
abbrev pub value_words : Option Name → List (List ℕ)
value_words None = []
value_words (Some name) = name.values

abbrev pub act_word : Act → List ℕ
act_word Add = codes "add"
act_word Revoke = codes "revoke"

abbrev pub reply_word : Reply → List ℕ
reply_word Admitted = codes "admitted"
reply_word Delayed = codes "delayed"
reply_word Already = codes "already"
reply_word Revoked = codes "revoked"
reply_word DelayedRevoked = codes "delayed-revoked"
reply_word Unknown = codes "unknown"
reply_word Forgotten = codes "forgotten"

-- `1 add up 3 admitted`
abbrev pub entry_line : Program → ℕ → Act → ℕ → ℕ → Reply → List ℕ
entry_line program feeder act event at reply =
    decimal feeder ++ codes " " ++ act_word act ++ codes " " ++ event_atom program event ++ codes
    " " ++ decimal at ++ codes " " ++ reply_word reply

-- ` (3,7]`; a span that ends after the window is open
abbrev pub span_text : ℕ → ℕ × ℕ → List ℕ
span_text q span = codes " (" ++ decimal span.0 ++ codes "," ++ (if nat_lt q span.1
    then codes "open)" else (decimal span.1 ++ codes "]"))

-- `  on=true (3,7] (9,open)`
abbrev pub fluent_line : ℕ → List ℕ → List ℕ → List (ℕ × ℕ) → List ℕ
fluent_line q atom value spans = codes "  " ++ atom ++ codes "=" ++ value ++ flat_map (span_text q)
    spans

-- a line for a row that is not empty
abbrev pub fluent_lines : ℕ → List ℕ → List ℕ × List (ℕ × ℕ) → List (List ℕ)
fluent_lines q atom row = if length row.1 == 0 then [] else (fluent_line q atom row.0 row.1 ∷ [])

-- `  alarm 3 9`
abbrev pub event_line : List ℕ → List ℕ → List ℕ
event_line atom points = codes "  " ++ atom ++ flat_map (λ t. codes " " ++ decimal t) points

abbrev pub unit_lines : Program → ℕ → Unit → PublishedRows → List (List ℕ)
unit_lines program q unit (fluent_rows rows) =
    flat_map (fluent_lines q (unit_atom program unit))
    (zip (value_words (slice_get program.names unit.name)) rows)
unit_lines program q unit (event_row points) = if length points == 0 then []
    else (event_line (unit_atom program unit) points ∷ [])

abbrev pub row_lines : Program → ℕ → List PublishedRows → List (List ℕ)
row_lines program q rows = flat_map (λ unit. unit_lines program q unit.0 unit.1)
    (zip program.units rows)

-- `query 0 window (0,10] evaluations 3`
abbrev pub query_line : ℕ → ℕ → ℕ → ℕ → List ℕ
query_line k w q count =
    codes "query " ++ decimal k ++ codes " window (" ++ decimal w ++ codes "," ++ decimal q
    ++ codes "] evaluations " ++ decimal count

-- the block of a seal: the query, and its rows that are not empty
abbrev pub block_lines : Program → List Entry → ℕ → List (List ℕ)
block_lines program history k =
    query_line k (left program.plan k) (right program.plan k) (evaluations program history k)
    ∷ row_lines program (right program.plan k) (publication program history k).rows

-- the lines of an entry that follows a history
abbrev pub entry_lines : Program → List Entry → Entry → List (List ℕ)
entry_lines program before (Fed feeder act event at reply) = entry_line program feeder act event at
    reply ∷ []
entry_lines program before (Seal number) = block_lines program (before ++ Seal number ∷ []) number

-- a fluent with one of its values: `on=true`
abbrev pub value_text : Program → Option Unit → ℕ → List ℕ
value_text program None v = []
value_text program (Some unit) v = unit_atom program unit ++ codes "=" ++ slice_index_or
    (value_words (slice_get program.names unit.name)) v []

-- `ask holds on=true 8`, `ask count`, `ask block 1`
abbrev pub query_text : Program → Query → List ℕ
query_text program (query.Holds unit v t) = codes "ask holds " ++ value_text program
    (slice_get program.units unit) v ++ codes " " ++ decimal t
query_text program query.Count = codes "ask count"
query_text program (query.Block number) = codes "ask block " ++ decimal number

-- ` yes`, ` outside 0 10`; nothing behind a block that is there
abbrev pub answer_text : Answer → List ℕ
answer_text answer.Yes = codes " yes"
answer_text answer.No = codes " no"
answer_text (answer.Outside w q) = codes " outside " ++ decimal w ++ codes " " ++ decimal q
answer_text answer.NothingYet = codes " nothing-yet"
answer_text (answer.NotPublished have) = codes " not-published " ++ decimal have
answer_text (answer.Number n) = codes " " ++ decimal n
answer_text (answer.Block number) = []

-- lines, each with the same before it
abbrev pub behind : List ℕ → List (List ℕ) → List (List ℕ)
behind lead lines = map (λ line. lead ++ line) lines

-- each line of a block that is there has `ask ` before it
abbrev pub asked_block : (ℕ → List (List ℕ)) → Answer → List (List ℕ)
asked_block block (answer.Block number) = behind (codes "ask ") (block number)
asked_block block other = []

-- the lines of an answer, where these are the blocks
abbrev pub answer_lines : Program → (ℕ → List (List ℕ)) → Query → Answer → List (List ℕ)
answer_lines program block asked answer = (query_text program asked ++ answer_text answer)
    ∷ asked_block block answer

-- what is published of a history, one for each of its seals
abbrev pub publications : Program → List Entry → List Published
publications program history = map (publication program history)
    (range_with_len 0 (seals history))

-- the lines of the answer to a question after a history
abbrev pub ask_lines : Program → List Entry → Query → List (List ℕ)
ask_lines program history asked =
    answer_lines program (block_lines program history) asked
    (answered program.plan (publications program history) asked)

-- the lines of a command that follows a history: for a feed its entry line, for a seal its block,
-- for a question its answer
abbrev pub lines_of : Program → List Entry → Command → List (List ℕ)
lines_of program before (command.Ask asked) = ask_lines program before asked
lines_of program before other = flat_map (entry_lines program before)
    (entries_of program.plan before other)

-- the lines of commands that follow a history
abbrev pub command_lines : Program → List Entry → List Command → List (List ℕ)
command_lines program before [] = []
command_lines program before (command ∷ rest) = lines_of program before command
    ++ command_lines program (before ++ entries_of program.plan before command) rest

abbrev pub is_reply : Reply → Reply → Bool
is_reply Admitted Admitted = true
is_reply Delayed Delayed = true
is_reply Already Already = true
is_reply Revoked Revoked = true
is_reply DelayedRevoked DelayedRevoked = true
is_reply Unknown Unknown = true
is_reply Forgotten Forgotten = true
is_reply one other = false

abbrev pub has_reply : Reply → Entry → Bool
has_reply wanted (Fed feeder act event at reply) = is_reply wanted reply
has_reply wanted (Seal number) = false

-- ` admitted 3`
abbrev pub reply_count_text : List Entry → Reply → List ℕ
reply_count_text history reply = codes " " ++ reply_word reply ++ codes " " ++ decimal
    (count_by (has_reply reply) history)

-- the replies in the order in which they are counted
abbrev pub replies : List Reply
replies = Admitted ∷ Delayed ∷ Already ∷ Revoked ∷ DelayedRevoked ∷ Unknown ∷ Forgotten ∷ []

abbrev pub entries_line : List Entry → List ℕ
entries_line history =
    codes "entries " ++ decimal (count_by (λ entry. not (is_seal entry)) history) ++ flat_map
    (reply_count_text history) replies

abbrev pub span_count : PublishedRows → ℕ
span_count (fluent_rows rows) = sum_by length rows
span_count (event_row points) = 0

abbrev pub point_count : PublishedRows → ℕ
point_count (fluent_rows rows) = 0
point_count (event_row points) = length points

-- a sum over all publications
abbrev pub over_queries : (ℕ → ℕ) → List Entry → ℕ
over_queries count history = sum_by count (range_with_len 0 (seals history))

abbrev pub queries_line : Program → List Entry → List ℕ
queries_line program history =
    codes "queries " ++ decimal (seals history)
    ++ codes " spans " ++ decimal (over_queries
    (λ k. sum_by span_count (publication program history k).rows) history)
    ++ codes " points " ++ decimal (over_queries
    (λ k. sum_by point_count (publication program history k).rows) history)
    ++ codes " evaluations " ++ decimal (over_queries (evaluations program history) history)

-- the three last lines
abbrev pub end_lines : Program → List Entry → ℕ → List (List ℕ)
end_lines program history ignored = (codes "ignored " ++ decimal ignored) ∷ entries_line history
    ∷ queries_line program history ∷ []

-- *Report text* of a list of commands, with so many ignored records
abbrev pub report_text : Program → List Command → ℕ → List ℕ
report_text program commands ignored =
    text_of_lines (command_lines program [] commands ++ end_lines program
    (history_of program.plan commands) ignored)
