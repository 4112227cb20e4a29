-- A script read record by record is the script of all its records.
use Rattle.std.proofs.Common.{◌≡◌, ℕ, zero, suc, ◌+◌, Bool, true, false, cond, not, List, [], ◌∷◌}
use Rattle.std.proofs.Common.{◌++◌, length, map, take, filter, position, Option, Some, None}
use Rattle.std.proofs.Common.{option_map, Result, Ok, Err, refl, sym, ap, ◌∙◌, arith, append_assoc}
use Rattle.std.proofs.Common.{append-nil, nat_lt}
use Rattle.std.proofs.lemmas.Bool.{lt-ltb, le-ltb}
use Rattle.std.proofs.lemmas.Bool.Decides.{nat_tests}
use Rattle.std.specs.List.{position_or_len}
use Rattle.ground_types.specs.declared.program.Program.{Program}
use Rattle.stream_read.specs.declared.records.Meaning.{Meaning}
use Rattle.stream_read.specs.declared.records.Meaning.TheVariants.{Means, Ignored, NoForm}
use Rattle.stream_read.specs.declared.script.Shape.{Shape}
use Rattle.stream_read.specs.declared.script.Script.{Script}
use Rattle.stream_read.specs.declared.script.StreamRefused.{StreamRefused}
use Rattle.stream_read.specs.declared.script.StreamRefused.TheVariants as refused
use Rattle.stream_read.specs.Records.{meaning_of}
use Rattle.stream_read.specs.Gathering.{Gathered, added, answer_of, script_from, Ends}
use Rattle.stream_read.specs.Scripts.{most, has_no_form, is_ignored, placed_from, answer_by}
use Rattle.stream_read.specs.Scripts.{script_of, Answers}

placed : {X : Type 0} (b : Bool) (x : X) (xs : List X) (n : ℕ) →
    cond (nat_lt (cond (not b) (1 + n) 0) (length (x ∷ xs))) (Some (cond (not b) (1 + n) 0)) None
    ≡ cond b (Some 0) (option_map (λ k. k + 1) (cond (nat_lt n (length xs)) (Some n) None))
placed true x xs n = grind (arith, nat_tests)
placed false x xs n = grind (arith, nat_tests)

position-cons : {X : Type 0} (p : X → Bool) (x : X) (xs : List X) → position p (x ∷ xs)
    ≡ cond (p x) (Some 0) (option_map (λ k. k + 1) (position p xs))
position-cons p x xs = placed (p x) x xs (position_or_len p xs)

-- the answer of what records mean that follow so many others
abbrev answer_from : ℕ → Gathered → Option ℕ → Bool → List Meaning → Result Script StreamRefused
answer_from count before (Some place) more meanings = Err (refused.BadRecord (place + (count + 1)))
answer_from count before None true meanings = Err refused.TooMany
answer_from count before None false meanings =
    Ok (record {
      commands = before.commands ++ placed_from (count + 1) meanings;
      ignored =
          before.ignored + length (filter is_ignored meanings);
    })

answers_all : (found : Option ℕ) (more : Bool) (meanings : List Meaning)
    → answer_from 0 (record { commands = []; ignored = 0 }) found more meanings ≡ answer_by found
    more meanings
answers_all (Some place) more meanings = refl
answers_all None true meanings = refl
answers_all None false meanings =
    let same : 0 + length (filter is_ignored meanings) ≡ length (filter is_ignored meanings) =
    omega arith in
    rw same refl

nothing_more : (count : ℕ) (before : Gathered)
    → Ok (record { commands = before.commands; ignored = before.ignored }) ≡ answer_from count
    before None false []
nothing_more count before =
    let same : before.ignored + 0 ≡ before.ignored = omega arith in
    rw (same, append-nil) refl

-- a record with a form comes first
command_first : (count : ℕ) (before : Gathered) (command : _) (found : Option ℕ) (more : Bool)
    (meanings : List Meaning)
    → answer_from (count + 1) (record {
      commands = before.commands ++ (record {
        place = count + 1;
        command = command;
      } ∷ []);
      ignored = before.ignored;
    }) found more meanings
    ≡ answer_from count before (option_map (λ k. k + 1) found) more (Means command ∷ meanings)
command_first count before command (Some place) more meanings = ap (λ n. Err (refused.BadRecord n))
    (omega arith)
command_first count before command None true meanings = refl
command_first count before command None false meanings = rw append_assoc refl

ignored_first : (count : ℕ) (before : Gathered) (found : Option ℕ) (more : Bool)
    (meanings : List Meaning)
    → answer_from (count + 1) (record { commands = before.commands; ignored = before.ignored + 1 })
    found more meanings
    ≡ answer_from count before (option_map (λ k. k + 1) found) more (Ignored ∷ meanings)
ignored_first count before (Some place) more meanings = ap (λ n. Err (refused.BadRecord n))
    (omega arith)
ignored_first count before None true meanings = refl
ignored_first count before None false meanings =
    let same : (before.ignored + 1) + length (filter is_ignored meanings) ≡ before.ignored + suc
    (length (filter is_ignored meanings)) = omega arith in
    rw same refl

-- one record more, by what it means
one_more : (meaning : Meaning) (count : ℕ) (before : Gathered) (behind : Gathered
    → Result Script StreamRefused) (more : Bool) (meanings : List Meaning)
    → ((next : Gathered) → behind next ≡ answer_from (count + 1) next
    (position has_no_form meanings) more meanings)
    → answer_of (count + 1) (added meaning (count + 1) before) behind ≡ answer_from count before
    (position has_no_form (meaning ∷ meanings)) more (meaning ∷ meanings)
one_more (Means command) count before behind more meanings h =
    rw (position-cons has_no_form (Means command) meanings) (h _ ∙ command_first count before
    command (position has_no_form meanings) more meanings)
one_more Ignored count before behind more meanings h =
    rw (position-cons has_no_form Ignored meanings) (h _ ∙ ignored_first count before
    (position has_no_form meanings) more meanings)
one_more NoForm count before behind more meanings h =
    rw (position-cons has_no_form NoForm meanings) (ap (λ n. Err (refused.BadRecord n))
    (omega arith))

one_less : (a b : ℕ) → nat_lt (suc a) (suc b) ≡ nat_lt a b
one_less a b = grind (arith, nat_tests)

from_here : (program : Program) (shape : Shape) (room count : ℕ) (before : Gathered)
    (rows : List (List (List ℕ))) → room + count ≡ most
    → script_from program shape count before rows
    ≡ answer_from count before (position has_no_form (map (meaning_of program shape)
    (take room rows))) (nat_lt room (length rows)) (map (meaning_of program shape)
    (take room rows))
from_here program shape zero count before [] e = nothing_more count before
from_here program shape (suc room) count before [] e =
    let none : nat_lt (suc room) 0 ≡ false = le-ltb (suc room) 0 (omega arith) in
    rw none (nothing_more count before)
from_here program shape zero count before (row ∷ rows) e =
    let full : nat_lt count most ≡ false = le-ltb count most (omega arith) in
    let more : nat_lt 0 (suc (length rows)) ≡ true = lt-ltb 0 (suc (length rows)) (omega arith) in
    rw (full, more) refl
from_here program shape (suc room) count before (row ∷ rows) e =
    let fits : nat_lt count most ≡ true = lt-ltb count most (omega arith) in
    rw (fits, one_less room (length rows)) (one_more (meaning_of program shape row) count before
    (λ next. script_from program shape (count + 1) next rows) (nat_lt room (length rows))
    (map (meaning_of program shape) (take room rows)) (λ next. from_here program shape room
    (count + 1) next rows (omega arith)))

all_in_turn : (program : Program) (shape : Shape) (rows : List (List (List ℕ)))
    → script_of program shape rows ≡ script_from program shape 0 (record {
      commands = [];
      ignored =
          0;
    }) rows
all_in_turn program shape rows =
    sym (from_here program shape most 0 (record { commands = []; ignored = 0 }) rows refl
    ∙ answers_all (position has_no_form (map (meaning_of program shape) (take most rows)))
    (nat_lt most (length rows)) (map (meaning_of program shape) (take most rows)))

pub begins : (program : Program) (shape : Shape) (before : Gathered)
    (all rows : List (List (List ℕ)))
    → before ≡ record { commands = []; ignored = 0 } → all ≡ rows
    → script_from program shape 0 before all ≡ script_of program shape rows
begins program shape before all rows fresh same =
    rw (fresh, same) (sym (all_in_turn program shape rows))

-- what is refused at the end of the records that may be is what all of them come to
pub ended : (program : Program) (shape : Shape) (rows : List (List (List ℕ))) (count : ℕ)
    (before : Gathered) (all : Result Script StreamRefused) (e : StreamRefused) → count ≡ most
    → Ends rows (Err e) → script_from program shape count before rows ≡ all → Answers (Err e) all
ended program shape rows count before all refused.OutOfMemory at ends whole = tt
ended program shape rows count before all refused.TooMany at ends whole =
    sym (ends program shape before)
    ∙ ap (λ c. script_from program shape c before rows) (sym at) ∙ whole
ended program shape rows count before all (refused.BadRecord n) at ends whole =
    sym (ends program shape before)
    ∙ ap (λ c. script_from program shape c before rows) (sym at) ∙ whole
