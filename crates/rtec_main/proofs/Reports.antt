-- The report of commands, one by one.
use Rattle.std.proofs.Common.{◌≡◌, ℕ, zero, suc, ◌+◌, ◌<◌, ◌≤◌, Bool, true, false, cond, List, []}
use Rattle.std.proofs.Common.{◌∷◌, ◌++◌, length, map, take, slice_index_or, Option, refl, sym, ◌∙◌}
use Rattle.std.proofs.Common.{ap, ap₂, subst, arith, drop, length-append, append-nil}
use Rattle.std.proofs.Common.{take-append-drop}
use Rattle.std.specs.List.{count_by}
use Rattle.std.proofs.lemmas.List.{map-append, take_more}
use Rattle.std.proofs.lemmas.List.Sums.{sum_by-append, sum_by-cons}
use Rattle.ground_types.specs.History.{seals, is_seal as is_seal_entry}
use Rattle.ground_types.specs.declared.plan.Plan.{Plan}
use Rattle.ground_types.specs.declared.entries.Entry.{Entry}
use Rattle.ground_types.specs.declared.entries.Command.{Command}
use Rattle.ground_types.specs.declared.entries.Command.TheVariants as command
use Rattle.ground_types.specs.declared.program.Program.{Program}
use Rattle.admit_core.specs.Log.{Log}
use Rattle.stream_read.specs.Scripts.{IsOfProgram}
use Rattle.text_pieces.specs.Lines.{text_of_lines}
use Rattle.text_pieces.proofs.LineTexts.{text_append}
use Rattle.report_text.specs.Report.{entries_of, history_after, history_of, lines_of}
use Rattle.report_text.specs.Report.{command_lines}
use Rattle.report_text.specs.Report.{end_lines}
use Rattle.report_text.specs.Printed.{end_of, AreOf}
use Rattle.report_text.proofs.Wholes.{history_goes_on, lines_go_on, ends_are_whole}
use Rattle.query_ask.specs.Right.{Parts}
use Rattle.rtec_main.specs.Coursing.{HasPlace, IsAbreast, AreCommandsOf, lead_text}
use Rattle.rtec_main.specs.Writes.{IsOnWay, IsCut}
use Rattle.rtec_main.specs.declared.course.Course.{Course}
use Rattle.rtec_main.proofs.Courses.{all_published}
use Rattle.rtec_main.proofs.Writing.{way_longer}
use Rattle.workload_draw.specs.Counts.{is_feed, is_seal, seal_count}
use Rattle.rtec_main.specs.Script.{entry_count}
use Rattle.rtec_main.specs.Simulated.{end_text, asked_text}

-- ---- what commands make

abbrev one_if : (Command → Bool) → Command → ℕ
one_if test made = cond (test made) 1 0

-- as many entries as the command is an add, a revoke or a seal, and as many seals as it is one
one_entry : (plan : Plan) (before : List Entry) (made : Command)
    → length (entries_of plan before made) ≡ one_if is_feed made + one_if is_seal made
one_entry plan before (command.Feed feeder act event at) = refl
one_entry plan before command.Seal = refl
one_entry plan before (command.Ask query) = refl
one_entry plan before (command.Wait count) = refl
one_entry plan before (command.After feeder count) = refl

one_seal : (plan : Plan) (before : List Entry) (made : Command)
    → seals (entries_of plan before made) ≡ one_if is_seal made
one_seal plan before (command.Feed feeder act event at) = refl
one_seal plan before command.Seal = refl
one_seal plan before (command.Ask query) = refl
one_seal plan before (command.Wait count) = refl
one_seal plan before (command.After feeder count) = refl

entries_after : (plan : Plan) (before : List Entry) (commands : List Command)
    → length (history_after plan before commands) ≡ length before + entry_count commands
entries_after plan before [] = omega arith
entries_after plan before (made ∷ rest) =
    omega (
      arith,
      entries_after plan (before ++ entries_of plan before made) rest,
      length-append before (entries_of plan before made),
      one_entry plan before made,
      sum_by-cons (one_if is_feed) made rest,
      sum_by-cons (one_if is_seal) made rest,
    )

abbrev entry_seals : Entry → ℕ
entry_seals entry = cond (is_seal_entry entry) 1 0

seals_after : (plan : Plan) (before : List Entry) (commands : List Command)
    → seals (history_after plan before commands) ≡ seals before + seal_count commands
seals_after plan before [] = omega arith
seals_after plan before (made ∷ rest) =
    omega (
      arith,
      seals_after plan (before ++ entries_of plan before made) rest,
      sum_by-append entry_seals before (entries_of plan before made),
      one_seal plan before made,
      sum_by-cons (one_if is_seal) made rest,
    )

-- ---- one command of a list of what has one

-- the commands up to this one, with it
commands_more : {T : Type 0} (meant : T → Command) (all : List T) (i : ℕ) (other : T)
    → i < length all
    → map meant (take (i + 1) all) ≡ map meant (take i all) ++ meant (slice_index_or all i other)
    ∷ []
commands_more meant all i other inside =
    ap (map meant) (take_more all i other inside)
    ∙ map-append meant (take i all) (slice_index_or all i other ∷ [])

history_more : {T : Type 0} (meant : T → Command) (plan : Plan) (all : List T) (i : ℕ) (other : T)
    → i < length all
    → history_of plan (map meant (take (i + 1) all))
    ≡ history_of plan (map meant (take i all)) ++ entries_of plan
    (history_of plan (map meant (take i all))) (meant (slice_index_or all i other))
history_more meant plan all i other inside =
    ap (history_of plan) (commands_more meant all i other inside)
    ∙ history_goes_on plan [] (map meant (take i all)) (meant (slice_index_or all i other) ∷ [])

-- the history with the entry of the next command
pub history_next : {T : Type 0} (meant : T → Command) (names program : Program)
    (history : List Entry) (all : List T) (i : ℕ) (other : T) (made : Command)
    → made ≡ meant (slice_index_or all i other) → names ≡ program
    → history ≡ history_of program.plan (map meant (take i all)) → i < length all
    → history ++ entries_of names.plan history made
    ≡ history_of program.plan (map meant (take (i + 1) all))
history_next meant names program history all i other made here same is inside =
    ap (λ m. history ++ entries_of names.plan history m) here
    ∙ ap₂ (λ (p : Program) (h : List Entry). h ++ entries_of p.plan h
    (meant (slice_index_or all i other))) same is
    ∙ sym (history_more meant program.plan all i other inside)

lines_more : {T : Type 0} (meant : T → Command) (program : Program) (all : List T) (i : ℕ)
    (other : T) → i < length all
    → text_of_lines (command_lines program [] (map meant (take (i + 1) all)))
    ≡ text_of_lines (command_lines program [] (map meant (take i all)))
    ++ text_of_lines (lines_of program (history_of program.plan (map meant (take i all)))
    (meant (slice_index_or all i other)))
lines_more meant program all i other inside =
    let before : List Command = map meant (take i all) in
    let made : Command = meant (slice_index_or all i other) in
    let history : List Entry = history_of program.plan before in
    let lines : List (List ℕ) = lines_of program history made in
    ap (λ c. text_of_lines (command_lines program [] c)) (commands_more meant all i other inside)
    ∙ ap text_of_lines (lines_go_on program [] before (made ∷ []))
    ∙ text_append (command_lines program [] before) (lines ++ [])
    ∙ ap (λ l. text_of_lines (command_lines program [] before) ++ text_of_lines l)
    (append-nil lines)

-- the text with the lines of the next command
pub text_next : {T : Type 0} (meant : T → Command) (names program : Program)
    (history : List Entry) (all : List T) (i : ℕ) (other : T) (made : Command)
    → made ≡ meant (slice_index_or all i other) → names ≡ program
    → history ≡ history_of program.plan (map meant (take i all)) → i < length all
    → text_of_lines (command_lines program [] (map meant (take i all)))
    ++ text_of_lines (lines_of names history made)
    ≡ text_of_lines (command_lines program [] (map meant (take (i + 1) all)))
text_next meant names program history all i other made here same is inside =
    let before : List ℕ = text_of_lines (command_lines program [] (map meant (take i all))) in
    ap (λ m. before ++ text_of_lines (lines_of names history m)) here
    ∙ ap₂ (λ (p : Program) (h : List Entry). before ++ text_of_lines (lines_of p h
    (meant (slice_index_or all i other)))) same is
    ∙ sym (lines_more meant program all i other inside)

-- the whole text of commands begins with that of the first ones
lines_split : {T : Type 0} (meant : T → Command) (program : Program) (all : List T) (i : ℕ)
    → (more : List ℕ) × (text_of_lines (command_lines program [] (map meant all))
    ≡ text_of_lines (command_lines program [] (map meant (take i all))) ++ more)
lines_split meant program all i =
    let first : List Command = map meant (take i all) in
    let others : List Command = map meant (drop i all) in
    let rest : List (List ℕ) =
    command_lines program (history_of program.plan first) others in (
      text_of_lines rest,
      ap (λ a. text_of_lines (command_lines program [] (map meant a)))
          (sym (take-append-drop i all))
          ∙ ap (λ c. text_of_lines (command_lines program [] c))
          (map-append meant (take i all) (drop i all))
          ∙ ap text_of_lines (lines_go_on program [] first others)
          ∙ text_append (command_lines program [] first) rest,
    )

-- what is written so far is a beginning of the whole text
pub cut_so_far : {T : Type 0} (meant : T → Command) (old now : Option (List ℕ)) (left : List ℕ)
    (program : Program) (all : List T) (i : ℕ)
    → IsOnWay old now left (text_of_lines (command_lines program [] (map meant (take i all))))
    → IsCut old now (text_of_lines (command_lines program [] (map meant all)))
cut_so_far meant old now left program all i way =
    let (more, split) = lines_split meant program all i in (
      left ++ more,
      subst (IsOnWay old now (left ++ more)) (sym split)
          (way_longer old now left
          (text_of_lines (command_lines program [] (map meant (take i all)))) more way),
    )

-- each command is of the program
one_of_program : {T : Type 0} (meant : T → Command) (program : Program) (all : List T) (i : ℕ)
    (other : T) → AreCommandsOf program (map meant all) → i < length all
    → IsOfProgram program (meant (slice_index_or all i other))
one_of_program meant program [] i other of inside = absurd (omega (arith, inside))
one_of_program meant program (x ∷ xs) zero other of inside = of.0
one_of_program meant program (x ∷ xs) (suc i) other of inside =
    one_of_program meant program xs i other of.1 (omega (arith, inside))

pub of_program_at : {T : Type 0} (meant : T → Command) (names program : Program) (all : List T)
    (i : ℕ) (other : T) (made : Command) → made ≡ meant (slice_index_or all i other)
    → names ≡ program → AreCommandsOf program (map meant all) → i < length all
    → IsOfProgram names made
of_program_at meant names program all i other made here same of inside =
    subst (IsOfProgram names) (sym here)
    (subst (λ (p : Program). IsOfProgram p (meant (slice_index_or all i other))) (sym same)
    (one_of_program meant program all i other of inside))

place_of : (log : Log) (made : Command)
    → length log.history + (one_if is_feed made + one_if is_seal made) ≤ log.cap
    → seals log.history + one_if is_seal made ≤ log.plan.queries → HasPlace log made
place_of log (command.Feed feeder act event at) room few = omega (arith, room)
place_of log command.Seal room few = (omega (arith, room), omega (arith, few))
place_of log (command.Ask query) room few = tt
place_of log (command.Wait count) room few = tt
place_of log (command.After feeder count) room few = tt

count_within : {T : Type 0} (meant : T → Command) (test : Command → Bool) (all : List T) (i : ℕ)
    (other : T) → i < length all
    → count_by test (map meant (take i all)) + one_if test (meant (slice_index_or all i other))
    ≤ count_by test (map meant all)
count_within meant test all i other inside =
    let first : List Command = map meant (take i all) in
    let made : List Command = meant (slice_index_or all i other) ∷ [] in
    let others : List Command = map meant (drop (i + 1) all) in
    let whole : map meant all ≡ map meant (take (i + 1) all) ++ others =
    ap (map meant) (sym (take-append-drop (i + 1) all))
    ∙ map-append meant (take (i + 1) all) (drop (i + 1) all) in
    omega (
      arith,
      ap (count_by test) whole,
      sum_by-append (one_if test) (map meant (take (i + 1) all)) others,
      ap (count_by test) (commands_more meant all i other inside),
      sum_by-append (one_if test) first made,
      sum_by-cons (one_if test) (meant (slice_index_or all i other)) [],
    )

-- there is a place for the entry of each command
pub has_place : {T : Type 0} (meant : T → Command) (log : Log) (all : List T) (i : ℕ) (other : T)
    (made : Command) → made ≡ meant (slice_index_or all i other) → (plan : Plan) → log.plan ≡ plan
    → log.history ≡ history_of plan (map meant (take i all))
    → entry_count (map meant all) ≤ log.cap → seal_count (map meant all) ≤ plan.queries
    → i < length all → HasPlace log made
has_place meant log all i other made here plan same history room few inside =
    let first : List Command = map meant (take i all) in
    subst (HasPlace log) (sym here)
    (place_of log (meant (slice_index_or all i other))
    (omega (
      arith,
      ap length history,
      entries_after plan [] first,
      count_within meant is_feed all i other inside,
      count_within meant is_seal all i other inside,
      room,
    ))
    (omega (
      arith,
      ap seals history,
      seals_after plan [] first,
      count_within meant is_seal all i other inside,
      ap (λ (p : Plan). p.queries) same,
      few,
    )))

-- ---- the whole text

-- what stands before the end, and the end
pub asked_whole : (is_full : Bool) (program : Program) (commands : List Command) (ignored : ℕ)
    → lead_text is_full program commands ++ end_text program commands ignored
    ≡ asked_text is_full program commands ignored
asked_whole true program commands ignored =
    sym (text_append (command_lines program [] commands)
    (end_lines program (history_of program.plan commands) ignored))
asked_whole false program commands ignored = refl

-- a beginning of what stands before the end is one of the whole
pub cut_asked : (old now : Option (List ℕ)) (is_full : Bool) (program : Program)
    (commands : List Command) (ignored : ℕ)
    → IsCut old now (lead_text is_full program commands)
    → IsCut old now (asked_text is_full program commands ignored)
cut_asked old now is_full program commands ignored (left, way) =
    let ends : List ℕ = end_text program commands ignored in (
      left ++ ends,
      subst (IsOnWay old now (left ++ ends)) (asked_whole is_full program commands ignored)
          (way_longer old now left (lead_text is_full program commands) ends way),
    )

-- what stands before the end, and the last three lines, are the whole
pub asked_is : (course : Course) (is_full : Bool) (program : Program) (commands : List Command)
    (ignored : ℕ) (history : List Entry) (list : List Parts) → IsAbreast course
    → course.names ≡ program → history ≡ course.log.history
    → course.log.history ≡ history_of program.plan commands → list ≡ course.board
    → lead_text is_full program commands ++ text_of_lines (end_of history ignored list)
    ≡ asked_text is_full program commands ignored
asked_is course is_full program commands ignored history list a names told made listed =
    let lead : List ℕ = lead_text is_full program commands in
    let are : AreOf program history list =
    subst (λ p. AreOf p history list) names
    (subst (λ h. AreOf course.names h list) (sym told)
    (subst (AreOf course.names course.log.history) (sym listed) (all_published course a))) in
    ap (λ e. lead ++ text_of_lines e) (ends_are_whole program history ignored list are)
    ∙ ap (λ h. lead ++ text_of_lines (end_lines program h ignored)) (told ∙ made)
    ∙ asked_whole is_full program commands ignored
