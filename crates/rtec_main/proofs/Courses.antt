-- A course stays abreast of its history.
use Rattle.std.proofs.Common.{◌≡◌, ℕ, zero, suc, ◌+◌, ◌-◌, ◌<◌, true, false, ◌&&◌}
use Rattle.std.proofs.Common.{List, [], ◌∷◌, ◌++◌, map, length, drop, slice_get, Some, refl}
use Rattle.std.proofs.Common.{sym, ◌∙◌, ap, ap₂, subst, arith, append_assoc, append-nil}
use Rattle.std.proofs.Common.{length-append}
use Rattle.std.specs.Prelude.{option_map}
use Rattle.std.specs.List.{list_all, flat_map, range_with_len}
use Rattle.std.proofs.Math.Seq.{drop-append_seam}
use Rattle.std.proofs.lemmas.Bool.Decides.{nat_tests}
use Rattle.std.proofs.lemmas.List.Elements.{All-nil, All-cons}
use Rattle.std.proofs.lemmas.Option.{same_Some}
use Rattle.ground_types.specs.History.{is_seal, seals, IsLegal}
use Rattle.ground_types.specs.Publication.{Published, publication}
use Rattle.ground_types.specs.Touched.{evaluations}
use Rattle.ground_types.specs.declared.entries.Entry.{Entry}
use Rattle.ground_types.specs.declared.entries.Entry.TheVariants.{Fed, Seal}
use Rattle.ground_types.specs.declared.program.Program.{Program}
use Rattle.ground_types.specs.Sound.{IsSound}
use Rattle.ground_types.specs.declared.entries.Command.TheVariants.{Ask}
use Rattle.ground_types.specs.declared.entries.Query.{Query}
use Rattle.ground_types.specs.declared.entries.Query.TheVariants as query
use Rattle.query_ask.specs.Right.{Parts}
use Rattle.query_ask.specs.Answers.{said, answered, AreOfProgram, is_of_program, IsAsked}
use Rattle.query_ask.specs.declared.answers.Answer.{Answer}
use Rattle.publish_shelf.specs.Listed.{MayFollow}
use Rattle.stream_read.specs.Scripts.{IsOfProgram}
use Rattle.admit_core.specs.Log.{Log, IsKept, IsOfLog, AreOfLog}
use Rattle.delay_revise.proofs.Staying.{seals_append, says_publication}
use Rattle.delay_revise.specs.Revising.{Revising, IsPublished, MayTake, is_of, number_of, closed}
use Rattle.text_pieces.specs.Lines.{text_of_lines}
use Rattle.report_text.specs.Printed.{block_in, block_at, AreOf, AreSound, IsCounted, AreCounted}
use Rattle.report_text.specs.Report.{block_lines, entry_lines, answer_lines, ask_lines}
use Rattle.report_text.proofs.Wholes.{block_is}
use Rattle.rtec_main.specs.Coursing.{ArePublished, reviser_of, IsAbreast, IsNextOn, IsNext}
use Rattle.rtec_main.specs.Coursing.{Publishes}
use Rattle.rtec_main.specs.declared.course.Course.{Course}

-- what a longer history keeps of what is published
abbrev pub Stays : Type 0
Stays = (program : Program) (before more : List Entry) (k : ℕ) (parts : Parts)
    → IsPublished program before k parts → IsPublished program (before ++ more) k parts

-- where publications are those of a history, the lines of an answer are those of its report
abbrev pub IsAnswer : Type 0
IsAnswer = (program : Program) (history : List Entry) (list : List Parts) (asked : Query)
    → AreOf program history list → AreOfProgram program list
    → answer_lines program (block_at list) asked (answered program.plan (map said list) asked)
    ≡ ask_lines program history asked

-- ---- publications of a history that grows

published_grow : Stays → (program : Program) (history more : List Entry) (k : ℕ)
    (list : List Parts) → ArePublished program history k list
    → ArePublished program (history ++ more) k list
published_grow stays program history more k [] are = tt
published_grow stays program history more k (parts ∷ rest) are = (
  stays program history more k parts are.0,
  published_grow stays program history more (k + 1) rest are.1,
)

published_push : (program : Program) (history : List Entry) (k n : ℕ) (list : List Parts)
    (parts : Parts) → ArePublished program history k list → n ≡ k + length list
    → IsPublished program history n parts → ArePublished program history k (list ++ parts ∷ [])
published_push program history k n [] parts are e is =
    let at : n ≡ k = omega arith in
    (subst (λ j. IsPublished program history j parts) at is, tt)
published_push program history k n (first ∷ rest) parts are e is = (
  are.0,
  published_push program history (k + 1) n rest parts are.1 (omega (arith, e)) is,
)

said_published : (program : Program) (history : List Entry) (k : ℕ) (list : List Parts)
    → ArePublished program history k list
    → map said list ≡ map (publication program history) (range_with_len k (length list))
said_published program history k [] are = refl
said_published program history k (parts ∷ rest) are =
    ap₂ (λ (p : Published) (more : List Published). p ∷ more)
    (says_publication program history k parts are.0)
    (said_published program history (k + 1) rest are.1)

evaluations_published : (program : Program) (history : List Entry) (k : ℕ) (list : List Parts)
    → ArePublished program history k list
    → map (λ (parts : Parts). parts.evaluations) list ≡ map (evaluations program history)
    (range_with_len k (length list))
evaluations_published program history k [] are = refl
evaluations_published program history k (parts ∷ rest) are =
    ap₂ (λ (r : ℕ) (more : List ℕ). r ∷ more) are.0.evaluations_are
    (evaluations_published program history (k + 1) rest are.1)

published_at : (program : Program) (history : List Entry) (k j n : ℕ) (list : List Parts)
    (parts : Parts) → ArePublished program history k list → slice_get list j ≡ Some parts
    → n ≡ k + j → IsPublished program history n parts
published_at program history k j n [] parts are at e = absurd cc
published_at program history k zero n (first ∷ rest) parts are at e =
    let same : k ≡ n = omega arith in
    subst (λ i. IsPublished program history i parts) same
    (subst (IsPublished program history k) (same_Some first parts at) are.0)
published_at program history k (suc j) n (first ∷ rest) parts are at e =
    published_at program history (k + 1) j n rest parts are.1 at (omega arith)

of_program : (program : Program) (history : List Entry) (list : List Parts)
    → ArePublished program history 0 list → AreOfProgram program list
of_program program history list are = record {
  numbers = λ j parts at. (published_at program history 0 j j list parts are at
      (omega arith)).number;
  programs = λ j parts at. (published_at program history 0 j j list parts are at
      (omega arith)).program_is;
}

-- ---- the chunk of a seal

sealed_last : (xs : List Entry) (number : ℕ)
    → option_map is_seal (slice_get (xs ++ Seal number ∷ []) (length xs)) ≡ Some true
sealed_last [] number = refl
sealed_last (x ∷ xs) number = sealed_last xs number

ends_so : (xs : List Entry) (number : ℕ)
    → option_map is_seal (slice_get (xs ++ Seal number ∷ []) (length (xs ++ Seal number ∷ []) - 1))
    ≡ Some true
ends_so xs number =
    let at : length (xs ++ Seal number ∷ []) - 1 ≡ length xs =
    omega (arith, length-append xs (Seal number ∷ [])) in
    ap (λ i. option_map is_seal (slice_get (xs ++ Seal number ∷ []) i)) at
    ∙ sealed_last xs number

back_of_log : (events : ℕ) (xs ys : List Entry) → AreOfLog events (xs ++ ys) → AreOfLog events ys
back_of_log events [] ys are = are
back_of_log events (x ∷ xs) ys are = back_of_log events xs ys are.1

one_of : (events : ℕ) (x : Entry) → IsOfLog events x → is_of events x ≡ true
one_of events (Fed feeder act event at reply) is =
    let below : event < events = is.2 in grind (arith, nat_tests)
one_of events (Seal number) is = refl

all_of : (events : ℕ) (xs : List Entry) → AreOfLog events xs → list_all (is_of events) xs ≡ true
all_of events [] are = refl
all_of events (x ∷ xs) are = ap₂ ◌&&◌ (one_of events x are.0) (all_of events xs are.1)

chunk_is : (taken rest history chunk : List Entry) (number : ℕ) → taken ++ rest ≡ history
    → chunk ≡ drop (length taken) (history ++ Seal number ∷ [])
    → chunk ≡ rest ++ Seal number ∷ []
chunk_is taken rest history chunk number joined is =
    is ∙ ap (λ h. drop (length taken) (h ++ Seal number ∷ [])) (sym joined)
    ∙ ap (drop (length taken)) (append_assoc taken rest (Seal number ∷ []))
    ∙ drop-append_seam taken (rest ++ Seal number ∷ [])

-- with the chunk all is taken
all_taken : (taken rest history chunk : List Entry) (number : ℕ) → taken ++ rest ≡ history
    → chunk ≡ drop (length taken) (history ++ Seal number ∷ [])
    → taken ++ chunk ≡ history ++ Seal number ∷ []
all_taken taken rest history chunk number joined is =
    ap (λ c. taken ++ c) (chunk_is taken rest history chunk number joined is)
    ∙ sym (append_assoc taken rest (Seal number ∷ []))
    ∙ ap (λ h. h ++ Seal number ∷ []) joined

may_take : (program : Program) (log : Log) (taken rest history chunk : List Entry) (number : ℕ)
    → log.plan ≡ program.plan → log.events ≡ program.events → IsKept log
    → log.history ≡ history ++ Seal number ∷ [] → taken ++ rest ≡ history → seals rest ≡ 0
    → chunk ≡ drop (length taken) (history ++ Seal number ∷ [])
    → MayTake (reviser_of program log.cap taken) chunk
may_take program log taken rest history chunk number plan events kept sealed joined none is =
    let chunk_so : chunk ≡ rest ++ Seal number ∷ [] =
    chunk_is taken rest history chunk number joined is in
    let all : taken ++ chunk ≡ log.history =
    all_taken taken rest history chunk number joined is ∙ sym sealed in
    record {
      none_open = refl;
      room = omega (arith, kept.few, ap length all, length-append taken chunk);
      sealed = ap seals chunk_so ∙ seals_append rest (Seal number ∷ [])
          ∙ ap (λ n. n + 1) none;
      ends = ap (λ c. option_map is_seal (slice_get c (length c - 1))) chunk_so
          ∙ ends_so rest number;
      legal = subst (λ p. IsLegal p (taken ++ chunk)) plan
          (subst (IsLegal log.plan) (sym all) kept.legal);
      events = subst (λ n. list_all (is_of n) chunk ≡ true) events
          (all_of log.events chunk (back_of_log log.events taken chunk
          (subst (AreOfLog log.events) (sym all) kept.entries)));
    }

-- what follows the entries that the reviser has taken, with the next seal behind it
pub chunk_may : (old : Course) (log : Log) (chunk all : List Entry) (number place : ℕ)
    → IsAbreast old → log ≡ record old.log { history = old.log.history ++ Seal number ∷ [] }
    → IsKept log → all ≡ log.history → place ≡ length old.reviser.taken
    → chunk ≡ drop place all → MayTake old.reviser chunk
chunk_may old log chunk all number place a sealed kept same at is =
    let history : log.history ≡ old.log.history ++ Seal number ∷ [] =
    ap (λ (l : Log). l.history) sealed in
    let taken : place ≡ length a.taken =
    at ∙ ap (λ (r : Revising). length r.taken) a.reviser in
    let cap : log.cap ≡ old.log.cap = ap (λ (l : Log). l.cap) sealed in
    subst (λ (r : Revising). MayTake r chunk)
    (ap (λ c. reviser_of old.names c a.taken) cap ∙ sym a.reviser)
    (may_take old.names log a.taken a.rest old.log.history chunk number
    (ap (λ (l : Log). l.plan) sealed ∙ a.plan) (ap (λ (l : Log). l.events) sealed ∙ a.events) kept
    history a.joined a.unsealed (is ∙ ap₂ (λ n h. drop n h) taken (same ∙ history)))

-- ---- a course

no_seal : (entry : Entry) → is_seal entry ≡ false → seals (entry ∷ []) ≡ 0
no_seal (Fed feeder act event at reply) fed = refl
no_seal (Seal number) fed = absurd cc

pub abreast_fed : Stays → (old new : Course) (entry : Entry) → is_seal entry ≡ false
    → IsAbreast old → new.names ≡ old.names
    → new.log ≡ record old.log { history = old.log.history ++ entry ∷ [] }
    → new.reviser ≡ old.reviser → new.board ≡ old.board → IsAbreast new
abreast_fed stays old new entry fed a names log reviser list =
    let history : new.log.history ≡ old.log.history ++ entry ∷ [] =
    ap (λ (l : Log). l.history) log in
    let none : seals (entry ∷ []) ≡ 0 = no_seal entry fed in
    record {
      plan = ap (λ (l : Log). l.plan) log ∙ a.plan ∙ sym (ap (λ (p : Program). p.plan) names);
      events = ap (λ (l : Log). l.events) log ∙ a.events
          ∙ sym (ap (λ (p : Program). p.events) names);
      taken = a.taken;
      rest = a.rest ++ entry ∷ [];
      reviser = reviser ∙ a.reviser
          ∙ ap₂ (λ p c. reviser_of p c a.taken) (sym names)
          (sym (ap (λ (l : Log). l.cap) log));
      joined = sym (append_assoc a.taken a.rest (entry ∷ []))
          ∙ ap (λ h. h ++ entry ∷ []) a.joined ∙ sym history;
      unsealed = omega (arith, seals_append a.rest (entry ∷ []), none, a.unsealed);
      published = subst (λ p. ArePublished p new.log.history 0 new.board) (sym names)
          (subst (λ h. ArePublished old.names h 0 new.board) (sym history)
          (subst (ArePublished old.names (old.log.history ++ entry ∷ []) 0) (sym list)
          (published_grow stays old.names old.log.history (entry ∷ []) 0 old.board
          a.published)));
      each = omega (
        arith,
        ap length list,
        a.each,
        ap seals history,
        seals_append old.log.history (entry ∷ []),
        none,
      );
    }

-- the history with its next seal
abbrev sealed_history : List Entry → List Entry
sealed_history history = history ++ Seal (seals history) ∷ []

-- the same course with the open chunk of that seal
abbrev opened : Course → Course
opened old = record old {
  log = record old.log { history = sealed_history old.log.history };
  reviser = record old.reviser {
    taken = sealed_history old.log.history;
    has_chunk = true;
  };
}

opened_reviser : (old mid : Course) → (a : IsAbreast old) → mid ≡ opened old
    → mid.reviser ≡ record (reviser_of old.names old.log.cap (sealed_history old.log.history)) {
      has_chunk = true;
    }
opened_reviser old mid a is =
    ap (λ (c : Course). c.reviser) is
    ∙ ap (λ (r : Revising). record r {
      taken = sealed_history old.log.history;
      has_chunk = true;
    }) a.reviser

last_number : (history : List Entry) → seals (sealed_history history) - 1 ≡ seals history
last_number history =
    let one : seals (Seal (seals history) ∷ []) ≡ 1 = refl in
    omega (arith, seals_append history (Seal (seals history) ∷ []), one)

published_last : (old mid new : Course) (parts : Parts) → IsAbreast old → mid ≡ opened old
    → Publishes mid new parts
    → IsPublished old.names (sealed_history old.log.history) (seals old.log.history) parts
published_last old mid new parts a is p =
    let history : List Entry = sealed_history old.log.history in
    subst (λ k. IsPublished old.names history k parts) (last_number old.log.history)
    (subst (λ (r : Revising). IsPublished r.program r.taken (number_of r) parts)
    (opened_reviser old mid a is) p.is)

-- after the publication of a seal
pub abreast_sealed : Stays → (old mid new : Course) (parts : Parts) → IsAbreast old
    → mid ≡ opened old → Publishes mid new parts → IsAbreast new
abreast_sealed stays old mid new parts a is p =
    let seal : List Entry = Seal (seals old.log.history) ∷ [] in
    let history : List Entry = sealed_history old.log.history in
    let one : seals seal ≡ 1 = refl in
    let names : new.names ≡ old.names = p.names ∙ ap (λ (c : Course). c.names) is in
    let log : new.log ≡ record old.log { history = history } =
    p.log ∙ ap (λ (c : Course). c.log) is in
    let list : new.board ≡ old.board ++ parts ∷ [] =
    p.board ∙ ap (λ (c : Course). c.board ++ parts ∷ []) is in
    let reviser : new.reviser ≡ reviser_of old.names old.log.cap history =
    p.reviser ∙ ap closed (opened_reviser old mid a is) in
    record {
      plan = ap (λ (l : Log). l.plan) log ∙ a.plan ∙ sym (ap (λ (p : Program). p.plan) names);
      events = ap (λ (l : Log). l.events) log ∙ a.events
          ∙ sym (ap (λ (p : Program). p.events) names);
      taken = history;
      rest = [];
      reviser = reviser
          ∙ ap₂ (λ p c. reviser_of p c history) (sym names) (sym (ap (λ (l : Log). l.cap) log));
      joined = append-nil history ∙ sym (ap (λ (l : Log). l.history) log);
      unsealed = refl;
      published = subst (λ p. ArePublished p new.log.history 0 new.board) (sym names)
          (subst (λ h. ArePublished old.names h 0 new.board)
          (sym (ap (λ (l : Log). l.history) log))
          (subst (ArePublished old.names history 0) (sym list)
          (published_push old.names history 0 (seals old.log.history) old.board parts
          (published_grow stays old.names old.log.history seal 0 old.board a.published)
          (omega (arith, a.each)) (published_last old mid new parts a is p))));
      each = omega (
        arith,
        ap length list,
        length-append old.board (parts ∷ []),
        a.each,
        ap (λ (l : Log). seals l.history) log,
        seals_append old.log.history seal,
        one,
      );
    }

-- and may go on the board
pub next_there : (old mid : Course) → IsAbreast old → mid ≡ opened old → IsNext mid
next_there old mid a is =
    let reviser = opened_reviser old mid a is in
    let board : old.board ≡ mid.board = sym (ap (λ (c : Course). c.board) is) in
    subst (λ (b : List Parts). IsNextOn mid.reviser b) board
    (subst (λ (r : Revising). IsNextOn r old.board) (sym reviser) (record {
      number = last_number old.log.history ∙ sym a.each;
      programs = (of_program old.names old.log.history old.board a.published).programs;
    }))

-- its block is that of the seal
pub sealed_block : (old mid new : Course) (parts : Parts) → IsAbreast old → mid ≡ opened old
    → Publishes mid new parts
    → block_in parts ≡ block_lines old.names (sealed_history old.log.history)
    (seals old.log.history)
sealed_block old mid new parts a is p =
    let last = published_last old mid new parts a is p in
    block_is old.names (sealed_history old.log.history) (seals old.log.history) parts last.number
    last.program_is last.rows last.evaluations_are

-- and its program is that of the course
pub sealed_program : (old mid new : Course) (parts : Parts) → IsSound old.names → IsAbreast old
    → mid ≡ opened old → Publishes mid new parts → IsSound parts.program
sealed_program old mid new parts sound a is p =
    subst IsSound (sym (published_last old mid new parts a is p).program_is) sound

-- the lines of a seal are its block
pub seal_lines : (program : Program) (history : List Entry) (before now : List ℕ)
    → now ≡ before ++ text_of_lines (block_lines program (sealed_history history) (seals history))
    → now ≡ before ++ text_of_lines (flat_map (entry_lines program history)
    (Seal (seals history) ∷ []))
seal_lines program history before now is =
    is ∙ ap (λ lines. before ++ text_of_lines lines)
    (sym (append-nil (block_lines program (sealed_history history) (seals history))))

-- for each seal its publication is there
pub all_published : (course : Course) → IsAbreast course
    → AreOf course.names course.log.history course.board
all_published course a = record {
  published = said_published course.names course.log.history 0 course.board a.published
      ∙ ap (λ n. map (publication course.names course.log.history) (range_with_len 0 n)) a.each;
  evaluations = evaluations_published course.names course.log.history 0 course.board
      a.published
      ∙ ap (λ n. map (evaluations course.names course.log.history) (range_with_len 0 n)) a.each;
}

pub follows : (reviser : Revising) (board : List Parts) (parts : Parts) → IsNextOn reviser board
    → IsPublished reviser.program reviser.taken (number_of reviser) parts → MayFollow board parts
follows reviser board parts next is = record {
  number = is.number ∙ next.number;
  program = λ j other at. next.programs j other at ∙ sym is.program_is;
}

-- a question over the board is one over publications of the program
question_of : (program : Program) (query : Query) → IsOfProgram program (Ask query)
    → is_of_program program query ≡ true
question_of program (query.Holds unit v t) is = is
question_of program query.Count is = refl
question_of program (query.Block number) is = refl

pub asked_there : (course : Course) (query : Query) → IsSound course.names → IsAbreast course
    → IsOfProgram course.names (Ask query) → IsAsked course.board query
asked_there course query sound a is = record {
  program = course.names;
  sound = sound;
  members = of_program course.names course.log.history course.board a.published;
  question = question_of course.names query is;
}

pub sound_there : (course : Course) → IsSound course.names → IsAbreast course
    → AreSound course.board
sound_there course sound a j parts at = subst IsSound
    (sym ((of_program course.names course.log.history course.board a.published).programs j parts
    at)) sound

-- the text of the answer
pub asked_text : (course : Course) (query : Query) (answer : Answer) (program : Program)
    (list : List Parts) → IsAbreast course → IsAnswer → program ≡ course.names
    → list ≡ course.board
    → ((program : Program) → AreOfProgram program list
    → answer ≡ answered program.plan (map said list) query)
    → answer_lines program (block_at list) query answer
    ≡ ask_lines course.names course.log.history query
asked_text course query answer program list a law names board is =
    let members : AreOfProgram course.names list = subst (AreOfProgram course.names) (sym board)
    (of_program course.names course.log.history course.board a.published) in
    ap (λ (p : Program). answer_lines p (block_at list) query answer) names
    ∙ ap (answer_lines course.names (block_at list) query) (is course.names members)
    ∙ ap (λ (l : List Parts). answer_lines course.names (block_at l) query
    (answered course.names.plan (map said l) query)) board
    ∙ law course.names course.log.history course.board query (all_published course a)
    (of_program course.names course.log.history course.board a.published)

counted_from : (program : Program) (history : List Entry) (k : ℕ) (list : List Parts)
    → IsCounted program → ArePublished program history k list → AreCounted list
counted_from program history k [] counted are = All-nil (λ (p : Parts). IsCounted p.program)
counted_from program history k (parts ∷ rest) counted are =
    All-cons (λ (p : Parts). IsCounted p.program) parts rest
    (subst IsCounted (sym are.0.program_is) counted)
    (counted_from program history (k + 1) rest counted are.1)

pub all_counted : (course : Course) → IsCounted course.names → IsAbreast course
    → AreCounted course.board
all_counted course counted a =
    counted_from course.names course.log.history 0 course.board counted a.published
