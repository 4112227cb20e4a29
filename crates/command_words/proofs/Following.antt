-- What `clap` walks through and what is read go side by side.
use Rattle.std.proofs.Common.{◌≡◌, ◌∙◌, ◌⊎◌, Bool, true, false, refl, sym, ap, subst, List, [], ◌∷◌}
use Rattle.std.proofs.Common.{◌||◌, Option, Some, None, inl, inr, codes}
use Rattle.std.specs.Prelude.{fold, option_and_then, is_some}
use Rattle.std.specs.Str.{bytes_eq, IsUtf8}
use Rattle.std.proofs.lemmas.Bool.{cases_Bool}
use Rattle.clap.specs.Walk.{Row, Text, Walk, Waiting, idle, option, positional, used, has_row}
use Rattle.clap.specs.Walk.{settled, settled_rows, walked, is_pending}
use Rattle.clap.specs.Lexer.{long_of, short_of}
use Rattle.clap.specs.Faults.{turn_fault, settle_fault}
use Rattle.clap.specs.declared.error.kind.ErrorKind.TheVariants as kind
use Rattle.command_words.specs.Words.{Given, Reading, Valued, Workers, Feeders, read_word}
use Rattle.command_words.specs.Words.{read_words}
use Rattle.command_words.specs.Words.{whole, with_place, shape_of, Long, nothing_given}
use Rattle.command_words.specs.Matching.{IsDoubtful, is_dashed}
use Rattle.command_words.specs.Words.{AreTexts}
use Rattle.command_words.proofs.Grammar.{top, rules}
use Rattle.command_words.proofs.Shown.{Shows, places_built, workers_built, feeders_built}
use Rattle.command_words.proofs.Shown.{full_built}
use Rattle.command_words.proofs.Shown.{place_shown, workers_shown, feeders_shown, full_shown}
use Rattle.command_words.proofs.Shown.{workers_used, feeders_used, full_used}
use Rattle.command_words.proofs.Doubts.{MayDoubt, stays}
use Rattle.command_words.proofs.Doomed.{Looks, plain, ends, dashed, long, looks, held_at, walk_at}
use Rattle.command_words.proofs.Doomed.{comes_to, Fails, turn_fails, turn_passes, no_words}
use Rattle.command_words.proofs.Doomed.{and_false}
use Rattle.command_words.proofs.Doomed.{no_command, place_fault, dash_fails, long_turn, ended_fails}
use Rattle.command_words.proofs.Doomed.{IsQuiet, open_fails, long_fails}

-- ---- states

-- Between two words: what is pending and may be settled, and what is shown then. Or an option wants
-- its value.
pub data State : Type 0 where
  Open : Option (Text × List Text) → Waiting → Bool → List Row → Given → State
  Wanting : Valued → List Row → Given → State

abbrev pub name_of : Valued → Text
name_of Workers = codes "workers"
name_of Feeders = codes "feeders"

abbrev pub reading_at : State → Reading
reading_at (Open p waiting ended rows given) = record {
  given = given;
  wants = None;
  is_ended = ended;
}
reading_at (Wanting valued rows given) = record {
  given = given;
  wants = Some valued;
  is_ended = false;
}

abbrev pub walk_of : State → Walk
walk_of (Open p waiting ended rows given) = walk_at (held_at rows p) waiting ended
walk_of (Wanting valued rows given) =
    walk_at (held_at rows (Some (name_of valued, []))) (option (name_of valued)) false

pub record IsOpen (p : Option (Text × List Text)) (waiting : Waiting) (rows : List Row)
    (given : Given) : Type 0 where
  pub calm : settle_fault rules false (held_at rows p) ≡ []
  pub shows : Shows (settled_rows rules p rows) given
  pub quiet : IsQuiet waiting

abbrev pub IsRight : State → Type 0
IsRight (Open p waiting ended rows given) = IsOpen p waiting rows given
IsRight (Wanting valued rows given) = Shows rows given

-- ---- one word

pub data Next (s : State) (word : Text) : Type 0 where
  goes : (t : State) → turn_fault top [] (walk_of s) word ≡ []
      → walked rules [] (walk_of s) word ≡ walk_of t
      → read_word (reading_at s) word ≡ Some (reading_at t) → IsRight t → Next s word
  fails : Fails (turn_fault top [] (walk_of s) word) → MayDoubt (read_word (reading_at s) word)
      → Next s word
  lost : turn_fault top [] (walk_of s) word ≡ []
      → ((words : List Text) → AreTexts words
      → Fails (comes_to (walked rules [] (walk_of s) word) words))
      → MayDoubt (read_word (reading_at s) word) → Next s word

cases_option : (o : Option Text) → (o ≡ None) ⊎ ((x : Text) × (o ≡ Some x))
cases_option None = inl refl
cases_option (Some x) = inr (x, refl)

idle_quiet : IsQuiet idle
idle_quiet word h = refl

positional_quiet : IsQuiet positional
positional_quiet word h = refl

-- a word in its place
after_place : (p : Option (Text × List Text)) (waiting : Waiting) (rows : List Row)
    (given : Given) (word : Text) → IsOpen p waiting rows given
    → IsOpen (Some (codes "places", word ∷ [])) positional (settled_rows rules p rows)
    (with_place word given)
after_place p waiting rows given word right = record {
  calm = refl;
  shows = place_shown (settled_rows rules p rows) given word right.shows;
  quiet = positional_quiet;
}

behind : (p : Option (Text × List Text)) (waiting : Waiting) (rows : List Row) (given : Given)
    (word : Text) → IsOpen p waiting rows given → Next (Open p waiting true rows given) word
unfolding walked
behind p waiting rows given word right = goes
    (Open (Some (codes "places", word ∷ [])) positional true (settled_rows rules p rows)
    (with_place word given))
    (place_fault (held_at rows p) ∙ right.calm) (rw (and_false (is_pending places_built p)) refl)
    refl (after_place p waiting rows given word right)

-- an option by its name
module _ (p : Option (Text × List Text)) (waiting : Waiting) (rows : List Row) (given : Given)
    (word name : Text) (right : IsOpen p waiting rows given)
    (e1 : bytes_eq word (45 ∷ 45 ∷ []) ≡ false) where
  abbrev now : List Row
  now = settled_rows rules p rows

  workers_met : (v : Option Text) → long_of word ≡ Some (name, v) → shape_of word ≡ Long name v
      → bytes_eq (codes "workers") name ≡ true → Next (Open p waiting false rows given) word
  unfolding walked
  workers_met None e2 e3 is = goes (Wanting Workers now given)
      (rw (no_command waiting word, e1, e2, is, right.calm) refl)
      (rw (no_command waiting word, e1, e2, is) refl) (rw (e3, is) refl) right.shows
  workers_met (Some text) e2 e3 is = elim (cases_option given.workers) [
    | inl none ↦
        let unused : has_row (codes "workers") now ≡ false =
        workers_used now given right.shows ∙ ap is_some none in
        goes (Open None idle false (used workers_built (text ∷ []) now)
        (record given { workers = Some text }))
        (rw (no_command waiting word, e1, e2, is, right.calm, unused) refl)
        (rw (no_command waiting word, e1, e2, is) refl) (rw (e3, is, none) refl)
        (record {
          calm = refl;
          shows = workers_shown now given text right.shows none;
          quiet = idle_quiet;
        })
    | inr some ↦
        let before : has_row (codes "workers") now ≡ true =
        workers_used now given right.shows ∙ ap is_some some.1 in
        fails (
          kind.ArgumentConflict,
          [],
          rw (no_command waiting word, e1, e2, is, right.calm, before) refl,
        )
        (rw (e3, is, some.1) tt)
  ]

  feeders_met : (v : Option Text) → long_of word ≡ Some (name, v) → shape_of word ≡ Long name v
      → bytes_eq (codes "workers") name ≡ false → bytes_eq (codes "feeders") name ≡ true
      → Next (Open p waiting false rows given) word
  unfolding walked
  feeders_met None e2 e3 no_workers is = goes (Wanting Feeders now given)
      (rw (no_command waiting word, e1, e2, no_workers, is, right.calm) refl)
      (rw (no_command waiting word, e1, e2, no_workers, is) refl)
      (rw (e3, no_workers, is) refl) right.shows
  feeders_met (Some text) e2 e3 no_workers is = elim (cases_option given.feeders) [
    | inl none ↦
        let unused : has_row (codes "feeders") now ≡ false =
        feeders_used now given right.shows ∙ ap is_some none in
        goes (Open None idle false (used feeders_built (text ∷ []) now)
        (record given { feeders = Some text }))
        (rw (no_command waiting word, e1, e2, no_workers, is, right.calm, unused) refl)
        (rw (no_command waiting word, e1, e2, no_workers, is) refl)
        (rw (e3, no_workers, is, none) refl)
        (record {
          calm = refl;
          shows = feeders_shown now given text right.shows none;
          quiet = idle_quiet;
        })
    | inr some ↦
        let before : has_row (codes "feeders") now ≡ true =
        feeders_used now given right.shows ∙ ap is_some some.1 in
        fails (
          kind.ArgumentConflict,
          [],
          rw (no_command waiting word, e1, e2, no_workers, is, right.calm, before) refl,
        )
        (rw (e3, no_workers, is, some.1) tt)
  ]

  full_met : (v : Option Text) → long_of word ≡ Some (name, v) → shape_of word ≡ Long name v
      → bytes_eq (codes "workers") name ≡ false → bytes_eq (codes "feeders") name ≡ false
      → bytes_eq (codes "full") name ≡ true → Next (Open p waiting false rows given) word
  unfolding walked
  full_met (Some text) e2 e3 no_workers no_feeders is = fails (
    kind.TooManyValues,
    [],
    rw (no_command waiting word, e1, e2, no_workers, no_feeders, is) refl,
  )
      (rw (e3, no_workers, no_feeders, is) tt)
  full_met None e2 e3 no_workers no_feeders is = elim (cases_Bool given.is_full) [
    | inr none ↦
        let unused : has_row (codes "full") now ≡ false =
        full_used now given right.shows ∙ none in
        goes (Open None idle false (used full_built [] now) (record given { is_full = true }))
        (rw (no_command waiting word, e1, e2, no_workers, no_feeders, is, right.calm, unused) refl)
        (rw (no_command waiting word, e1, e2, no_workers, no_feeders, is) refl)
        (rw (e3, no_workers, no_feeders, is, none) refl)
        (record {
          calm = refl;
          shows = full_shown now given right.shows none;
          quiet = idle_quiet;
        })
    | inl some ↦
        let before : has_row (codes "full") now ≡ true =
        full_used now given right.shows ∙ some in
        fails (
          kind.ArgumentConflict,
          [],
          rw (no_command waiting word, e1, e2, no_workers, no_feeders, is, right.calm, before) refl,
        )
        (rw (e3, no_workers, no_feeders, is, some) tt)
  ]

  long_met : (v : Option Text) → long_of word ≡ Some (name, v) → shape_of word ≡ Long name v
      → Next (Open p waiting false rows given) word
  long_met v e2 e3 = elim (cases_Bool (bytes_eq (codes "workers") name)) [
    | inl is ↦ workers_met v e2 e3 is
    | inr no_workers ↦ elim (cases_Bool (bytes_eq (codes "feeders") name)) [
      | inl is ↦ feeders_met v e2 e3 no_workers is
      | inr no_feeders ↦ elim (cases_Bool (bytes_eq (codes "full") name)) [
        | inl is ↦ full_met v e2 e3 no_workers no_feeders is
        | inr no_full ↦ fails (
          kind.UnknownArgument,
          [],
          rw (no_command waiting word, e1, e2, no_workers, no_feeders, no_full) refl,
        )
            (rw (e3, no_workers, no_feeders, no_full) tt)
      ]
    ]
  ]

before_end : (p : Option (Text × List Text)) (waiting : Waiting) (rows : List Row) (given : Given)
    (word : Text) → Looks word → IsOpen p waiting rows given
    → Next (Open p waiting false rows given) word
unfolding walked
before_end p waiting rows given word (plain e1 e2 e3 e4) right = goes
    (Open (Some (codes "places", word ∷ [])) positional false (settled_rows rules p rows)
    (with_place word given))
    (rw (no_command waiting word, e1, e2, e3, right.quiet word (held_at rows p))
    (place_fault (held_at rows p) ∙ right.calm))
    (rw (
      no_command waiting word,
      e1,
      e2,
      e3,
      right.quiet word (held_at rows p),
      and_false (is_pending places_built p),
    ) refl)
    (rw e4 refl) (after_place p waiting rows given word right)
before_end p waiting rows given word (ends e) right =
    subst (λ x. Next (Open p waiting false rows given) x) (sym e)
    (goes (Open p waiting true rows given) (rw (no_command waiting (45 ∷ 45 ∷ [])) refl)
    (rw (no_command waiting (45 ∷ 45 ∷ [])) refl) refl right)
before_end p waiting rows given word (dashed first x rest e1 e2 e3 e4 e5 e6) right =
    fails (dash_fails (held_at rows p) waiting word first x rest rows p e1 e2 e3 e4) (rw e5 tt)
before_end p waiting rows given word (long name v e1 e2 e3 e4) right =
    long_met p waiting rows given word name right e1 v e2 e3

-- ---- the value of an option

or_right : (a b : Bool) → b ≡ true → (a || b) ≡ true
or_right true b e = refl
or_right false b e = e

-- a value that begins with `-` is doubtful
dash_doubt : (valued : Valued) (workers feeders : Option Text) (places : List Text) (full : Bool)
    (word : Text) → is_dashed word ≡ true
    → MayDoubt (read_word (record {
      given = record { places = places; workers = workers; feeders = feeders; is_full = full };
      wants = Some valued;
      is_ended = false;
    }) word)
dash_doubt Workers None feeders places full word dash = rw dash refl
dash_doubt Workers (Some w) feeders places full word dash = tt
dash_doubt Feeders workers None places full word dash = or_right _ (is_dashed word) dash
dash_doubt Feeders workers (Some f) places full word dash = tt

-- an option that wants its value fails where it has none
wants_fails : (valued : Valued) (rows : List Row)
    → Fails (settle_fault rules false (held_at rows (Some (name_of valued, []))))
wants_fails Workers rows = (kind.InvalidValue, [], refl)
wants_fails Feeders rows = (kind.InvalidValue, [], refl)

workers_value : (rows : List Row) (given : Given) (word : Text)
    → bytes_eq word (45 ∷ 45 ∷ []) ≡ false → long_of word ≡ None → short_of word ≡ None
    → Shows rows given → Next (Wanting Workers rows given) word
unfolding walked
workers_value rows given word e1 e2 e3 shows = elim (cases_option given.workers) [
  | inl none ↦
      let unused : has_row (codes "workers") rows ≡ false =
      workers_used rows given shows ∙ ap is_some none in
      goes (Open (Some (codes "workers", word ∷ [])) idle false rows
      (record given { workers = Some word }))
      (rw (e1, e2, e3) refl) (rw (e1, e2, e3) refl) (rw none refl)
      (record {
        calm = rw unused refl;
        shows = workers_shown rows given word shows none;
        quiet = idle_quiet;
      })
  | inr some ↦
      let before : has_row (codes "workers") rows ≡ true =
      workers_used rows given shows ∙ ap is_some some.1 in
      lost (rw (e1, e2, e3) refl)
      (λ words texts. rw (e1, e2, e3)
      (open_fails words rows (Some (codes "workers", word ∷ [])) idle idle_quiet texts
      (kind.ArgumentConflict, [], rw before refl)))
      (rw some.1 tt)
]

feeders_value : (rows : List Row) (given : Given) (word : Text)
    → bytes_eq word (45 ∷ 45 ∷ []) ≡ false → long_of word ≡ None → short_of word ≡ None
    → Shows rows given → Next (Wanting Feeders rows given) word
unfolding walked
feeders_value rows given word e1 e2 e3 shows = elim (cases_option given.feeders) [
  | inl none ↦
      let unused : has_row (codes "feeders") rows ≡ false =
      feeders_used rows given shows ∙ ap is_some none in
      goes (Open (Some (codes "feeders", word ∷ [])) idle false rows
      (record given { feeders = Some word }))
      (rw (e1, e2, e3) refl) (rw (e1, e2, e3) refl) (rw none refl)
      (record {
        calm = rw unused refl;
        shows = feeders_shown rows given word shows none;
        quiet = idle_quiet;
      })
  | inr some ↦
      let before : has_row (codes "feeders") rows ≡ true =
      feeders_used rows given shows ∙ ap is_some some.1 in
      lost (rw (e1, e2, e3) refl)
      (λ words texts. rw (e1, e2, e3)
      (open_fails words rows (Some (codes "feeders", word ∷ [])) idle idle_quiet texts
      (kind.ArgumentConflict, [], rw before refl)))
      (rw some.1 tt)
]

wanted : (valued : Valued) (rows : List Row) (given : Given) (word : Text) → Looks word
    → Shows rows given → Next (Wanting valued rows given) word
unfolding walked
wanted Workers rows given word (plain e1 e2 e3 e4) shows =
    workers_value rows given word e1 e2 e3 shows
wanted Feeders rows given word (plain e1 e2 e3 e4) shows =
    feeders_value rows given word e1 e2 e3 shows
wanted valued rows given word (ends e) shows =
    subst (λ x. Next (Wanting valued rows given) x) (sym e)
    (lost refl
    (λ words texts. ended_fails words rows (Some (name_of valued, [])) (option (name_of valued))
    (wants_fails valued rows))
    (dash_doubt valued given.workers given.feeders given.places given.is_full (45 ∷ 45 ∷ []) refl))
wanted valued rows given word (dashed first x rest e1 e2 e3 e4 e5 e6) shows =
    fails (dash_fails (held_at rows None) (option (name_of valued)) word first x rest rows
    (Some (name_of valued, [])) e1 e2 e3 e4)
    (dash_doubt valued given.workers given.feeders given.places given.is_full word e6)
wanted valued rows given word (long name v e1 e2 e3 e4) shows =
    fails (long_turn rows (Some (name_of valued, [])) (option (name_of valued)) word name v e1 e2
    (long_fails name v (held_at rows (Some (name_of valued, []))) (wants_fails valued rows)))
    (dash_doubt valued given.workers given.feeders given.places given.is_full word e4)

next : (s : State) (word : Text) → IsUtf8 word → IsRight s → Next s word
next (Open p waiting true rows given) word text right = behind p waiting rows given word right
next (Open p waiting false rows given) word text right =
    before_end p waiting rows given word (looks word text) right
next (Wanting valued rows given) word text shows =
    wanted valued rows given word (looks word text) shows

-- ---- all words

-- no fault, and the rows show what is given
pub record Reads (s : State) (words : List Text) : Type 0 where
  pub given : Given
  pub none : comes_to (walk_of s) words ≡ []
  pub is : option_and_then whole (read_words (Some (reading_at s)) words) ≡ Some given
  pub shows : Shows (settled rules (fold (walked rules []) (walk_of s) words).held).rows given

-- a fault, and what is given comes to no task
pub record Refuses (s : State) (words : List Text) : Type 0 where
  pub fault : Fails (comes_to (walk_of s) words)
  pub doubt : IsDoubtful (option_and_then whole (read_words (Some (reading_at s)) words))

pub follows : (words : List Text) (s : State) → AreTexts words → IsRight s
    → Reads s words ⊎ Refuses s words
follows [] (Open p waiting ended rows given) texts right = inl (record {
  given = given;
  none = no_words (walk_of (Open p waiting ended rows given)) ∙ right.calm;
  is = refl;
  shows = right.shows;
})
follows [] (Wanting valued rows given) texts shows = inr (record {
  fault = rw (no_words (walk_of (Wanting valued rows given))) (wants_fails valued rows);
  doubt = tt;
})
follows (word ∷ words) s texts right =
    by (λ t of. follows words t texts.1 of) (next s word texts.0 right)
  where
    by : ((t : State) → IsRight t → Reads t words ⊎ Refuses t words)
        → Next s word → Reads s (word ∷ words) ⊎ Refuses s (word ∷ words)
    by again (fails fault doubt) = inr (record {
      fault = turn_fails (walk_of s) word words fault;
      doubt = stays words (read_word (reading_at s) word) doubt;
    })
    by again (lost none fault doubt) = inr (record {
      fault = rw (turn_passes (walk_of s) word words none) (fault words texts.1);
      doubt = stays words (read_word (reading_at s) word) doubt;
    })
    by again (goes t none walks reads right_then) = elim (again t right_then) [
      | inl rest ↦ inl (record {
        given = rest.given;
        none = turn_passes (walk_of s) word words none
            ∙ ap (λ w. comes_to w words) walks ∙ rest.none;
        is = ap (λ r. option_and_then whole (read_words r words)) reads ∙ rest.is;
        shows = subst (λ w. Shows (settled rules (fold (walked rules []) w words).held).rows
            rest.given) (sym walks) rest.shows;
      })
      | inr rest ↦ inr (record {
        fault = rw (turn_passes (walk_of s) word words none ∙ ap (λ w. comes_to w words) walks)
            rest.fault;
        doubt = subst (λ r. IsDoubtful (option_and_then whole (read_words r words))) (sym reads)
            rest.doubt;
      })
    ]

-- from the first word on
pub from_first : (words : List Text) → AreTexts words
    → Reads (Open None idle false [] nothing_given) words
    ⊎ Refuses (Open None idle false [] nothing_given) words
from_first words texts = follows words (Open None idle false [] nothing_given) texts (record {
  calm = refl;
  shows = record { places = refl; workers = refl; feeders = refl; full = refl };
  quiet = idle_quiet;
})
