-- What `clap` answers at the end of the words.
use Rattle.std.proofs.Common.{◌≡◌, ◌∙◌, Bool, true, false, refl, sym, ap, ap₂, subst, List, []}
use Rattle.std.proofs.Common.{◌∷◌, ◌||◌, Option, Some, None, inl, inr, codes, true≢false, drop}
use Rattle.std.specs.Prelude.{option_map, option_and_then, slice_get, find, if◌then◌else◌}
use Rattle.std.specs.Str.{bytes_eq}
use Rattle.std.proofs.lemmas.Bool.{cases_Bool}
use Rattle.clap.specs.Walk.{Row, Rule, Text, Held, has_row, with_default, finished, settled, walk}
use Rattle.clap.specs.Walk.{walk_from, nothing_held, idle, first_of, one_of, all_of, row_text}
use Rattle.clap.specs.Walk.{rows_of}
use Rattle.clap.specs.Values.{read_as}
use Rattle.clap.specs.Matches.{found_of}
use Rattle.clap.specs.Simple.{built, HasMatchesOf}
use Rattle.clap.specs.Kinds.{Kinds, IsAmong, or_else}
use Rattle.clap.specs.Faults.{fault_of, walk_fault, settle_fault, default_fault, defaults_fault}
use Rattle.clap.specs.declared.error.kind.ErrorKind.{ErrorKind}
use Rattle.clap.specs.declared.builder.value_parser.Reading.{Reading}
use Rattle.clap.specs.declared.builder.value_parser.Reading.TheVariants.{AsWritten}
use Rattle.clap.specs.declared.parser.matches.ArgMatches.{ArgMatches}
use Rattle.clap.specs.declared.parser.matches.ValueSource.TheVariants.{DefaultValue}
use Rattle.clap.proofs.FaultLemmas.{leaf_fault}
use Rattle.clap.proofs.WalkLemmas.{first_value-rows, raw_values-rows, one_text-rows}
use Rattle.command_words.specs.Words.{Given, given_by, AreTexts}
use Rattle.command_words.specs.Matching.{grammar, flag_text, listed, Holds, AreMatches}
use Rattle.command_words.specs.Matching.{IsDoubtful}
use Rattle.command_words.proofs.Grammar.{top, rules, no_subs}
use Rattle.command_words.proofs.Rows.{pick, other_kept, same_added, added}
use Rattle.command_words.proofs.Shown.{Shows, places_built, workers_built, feeders_built}
use Rattle.command_words.proofs.Shown.{full_built}
use Rattle.command_words.proofs.Shown.{values, one_value, flag_value, full_used}
use Rattle.command_words.proofs.Doomed.{comes_to, walk_at, held_at}
use Rattle.command_words.proofs.Following.{from_first}

-- an argument without default values leaves the rows
kept : (rows : List Row) (id : Text) → (if has_row id rows then rows else rows) ≡ rows
kept rows id = go (has_row id rows)
  where
    go : (b : Bool) → (if b then rows else rows) ≡ rows
    go true = refl
    go false = refl

-- only the flag has a default
pub finished_is : (h : Held) → finished rules h ≡ with_default (settled rules h).rows full_built
finished_is h =
    let rows = (settled rules h).rows in
    ap (λ rs. with_default (with_default (with_default rs workers_built) feeders_built) full_built)
    (kept rows (codes "places"))
    ∙ ap (λ rs. with_default (with_default rs feeders_built) full_built)
    (kept rows (codes "workers"))
    ∙ ap (λ rs. with_default rs full_built) (kept rows (codes "feeders"))

-- ---- faults

or_true : (b : Bool) → (b || true) ≡ true
or_true true = refl
or_true false = refl

or_else_none : (kinds : Kinds) → or_else kinds [] ≡ kinds
or_else_none [] = refl
or_else_none (k ∷ ks) = refl

then_none : (rows : List Row) (a : Rule) (rest : List Rule) → default_fault rows a ≡ []
    → defaults_fault (with_default rows a) rest ≡ [] → defaults_fault rows (a ∷ rest) ≡ []
unfolding defaults_fault
then_none rows a rest one two = ap₂ or_else one two

flag_none : (rows : List Row) → default_fault rows full_built ≡ []
flag_none rows = elim (cases_Bool (has_row (codes "full") rows)) [
  | inl has ↦ rw has refl
  | inr not ↦ rw not refl
]

no_rules : (rows : List Row) → defaults_fault rows [] ≡ []
unfolding defaults_fault
no_rules rows = refl

no_default_fault : (rows : List Row) → defaults_fault rows rules ≡ []
no_default_fault rows =
    let one = with_default rows places_built in
    let two = with_default one workers_built in
    let three = with_default two feeders_built in
    then_none rows places_built (workers_built ∷ feeders_built ∷ full_built ∷ [])
    (rw (or_true (has_row (codes "places") rows)) refl)
    (then_none one workers_built (feeders_built ∷ full_built ∷ [])
    (rw (or_true (has_row (codes "workers") one)) refl)
    (then_none two feeders_built (full_built ∷ [])
    (rw (or_true (has_row (codes "feeders") two)) refl)
    (then_none three full_built [] (flag_none three) (no_rules (with_default three full_built)))))

-- the words are refused by what a walk over them comes to
pub fault_is : (words : List Text) → fault_of grammar words
    ≡ comes_to (walk_at (held_at [] None) idle false) (drop 1 words)
fault_is words =
    let end = walk rules [] nothing_held (drop 1 words) in
    leaf_fault (built grammar) nothing_held (drop 1 words) no_subs
    ∙ ap (λ d. or_else (walk_fault top [] (walk_from nothing_held) (drop 1 words))
    (or_else (settle_fault rules false end.held) (or_else d [])))
    (no_default_fault (settled rules end.held).rows)
    ∙ ap (λ s. or_else (walk_fault top [] (walk_from nothing_held) (drop 1 words)) s)
    (or_else_none (settle_fault rules false end.held))

-- ---- matches

default_kept : (id : Text) (rows : List Row) → bytes_eq (codes "full") id ≡ false
    → pick id (with_default rows full_built) ≡ pick id rows
default_kept id rows apart = elim (cases_Bool (has_row (codes "full") rows)) [
  | inl has ↦ rw has refl
  | inr not ↦ rw not
      (other_kept (codes "full") id AsWritten DefaultValue (codes "false" ∷ []) rows apart)
]

flag_shown : (rows : List Row) (is_full : Bool) → has_row (codes "full") rows ≡ is_full
    → pick (codes "full") rows ≡ flag_value is_full
    → pick (codes "full") (with_default rows full_built) ≡ Some (values (flag_text is_full ∷ []))
flag_shown rows true has is = rw has is
flag_shown rows false has is = rw has
    (same_added (codes "full") AsWritten DefaultValue (codes "false" ∷ []) rows
    ∙ ap (λ p. Some (added AsWritten (codes "false" ∷ []) p)) is)

-- the values of a row, the first of them, and how that is read
abbrev second : Reading × List Text → List Text
second p = p.1

abbrev first : Reading × List Text → Option Text
first p = slice_get p.1 0

abbrev read_first : Reading × List Text → Option Text
read_first p = option_map (read_as p.0) (slice_get p.1 0)

all_by_pick : (id : Text) (rows : List Row) → all_of id rows ≡ option_map second (pick id rows)
all_by_pick id rows = go (find (λ r. bytes_eq r.id id) rows)
  where
    go : (o : Option Row) → option_map (λ r. r.values) o
        ≡ option_map second (option_map (λ r. (r.reading, r.values)) o)
    go None = refl
    go (Some r) = refl

first_by_pick : (id : Text) (rows : List Row) → first_of id rows
    ≡ option_and_then first (pick id rows)
first_by_pick id rows = go (find (λ r. bytes_eq r.id id) rows)
  where
    go : (o : Option Row) → option_and_then (λ r. slice_get r.values 0) o
        ≡ option_and_then first (option_map (λ r. (r.reading, r.values)) o)
    go None = refl
    go (Some r) = refl

one_by_pick : (id : Text) (rows : List Row) → one_of id rows
    ≡ option_and_then read_first (pick id rows)
one_by_pick id rows = go (find (λ r. bytes_eq r.id id) rows)
  where
    go : (o : Option Row) → option_and_then row_text o
        ≡ option_and_then read_first
        (option_map (λ r. (r.reading, r.values)) o)
    go None = refl
    go (Some r) = refl

listed_again : (o : Option (List Text)) → option_map second (option_map values o) ≡ o
listed_again None = refl
listed_again (Some words) = refl

value_again : (o : Option Text)
    → option_and_then first (one_value o) ≡ o
value_again None = refl
value_again (Some v) = refl

pub holds : (matches : ArgMatches) (given : Given) (h : Held)
    → rows_of (found_of matches) ≡ finished rules h → Shows (settled rules h).rows given
    → Holds matches given
holds matches given h are shows =
    let rows = (settled rules h).rows in
    let is : rows_of (found_of matches) ≡ with_default rows full_built = are ∙ finished_is h in
    record {
      places = raw_values-rows (found_of matches) (codes "places")
          ∙ ap (all_of (codes "places")) is
          ∙ all_by_pick (codes "places") (with_default rows full_built)
          ∙ ap (option_map second) (default_kept (codes "places") rows refl ∙ shows.places)
          ∙ listed_again (listed given.places);
      workers = first_value-rows (found_of matches) (codes "workers")
          ∙ ap (first_of (codes "workers")) is
          ∙ first_by_pick (codes "workers") (with_default rows full_built)
          ∙ ap (option_and_then first) (default_kept (codes "workers") rows refl ∙ shows.workers)
          ∙ value_again given.workers;
      feeders = first_value-rows (found_of matches) (codes "feeders")
          ∙ ap (first_of (codes "feeders")) is
          ∙ first_by_pick (codes "feeders") (with_default rows full_built)
          ∙ ap (option_and_then first) (default_kept (codes "feeders") rows refl ∙ shows.feeders)
          ∙ value_again given.feeders;
      full = one_text-rows (found_of matches) (codes "full")
          ∙ ap (one_of (codes "full")) is
          ∙ one_by_pick (codes "full") (with_default rows full_built)
          ∙ ap (option_and_then read_first)
          (flag_shown rows given.is_full (full_used rows given shows) shows.full);
    }

-- ---- the answer

texts_after : (words : List Text) → AreTexts words → AreTexts (drop 1 words)
texts_after [] texts = tt
texts_after (word ∷ words) texts = texts.1

not_empty : (k : ErrorKind) (ks : Kinds) → k ∷ ks ≡ [] → ⊥
not_empty k ks e = true≢false (ap (λ (l : Kinds). go l) e)
  where
    go : Kinds → Bool
    go [] = false
    go (k ∷ ks) = true

pub ok_answer : (words : List Text) (matches : ArgMatches) → AreTexts words
    → fault_of grammar words ≡ [] → HasMatchesOf grammar words matches
    → AreMatches (given_by (drop 1 words)) (Some matches)
ok_answer words matches texts none has =
    elim (from_first (drop 1 words) (texts_after words texts)) [
      | inl reads ↦ subst (λ given. AreMatches given (Some matches)) (sym reads.is)
          (holds matches reads.given (walk rules [] nothing_held (drop 1 words)).held
          (has refl).0 reads.shows)
      | inr refuses ↦ absurd (not_empty refuses.fault.0 refuses.fault.1
          (sym refuses.fault.2 ∙ sym (fault_is words) ∙ none))
    ]

among_none : (k : ErrorKind) (kinds : Kinds) → kinds ≡ [] → IsAmong k kinds → ⊥
among_none k [] e among = among
among_none k (x ∷ xs) e among = not_empty x xs e

pub err_answer : (words : List Text) (k : ErrorKind) → AreTexts words
    → IsAmong k (fault_of grammar words) → IsDoubtful (given_by (drop 1 words))
err_answer words k texts among = elim (from_first (drop 1 words) (texts_after words texts)) [
  | inl reads ↦ absurd (among_none k (fault_of grammar words)
      (fault_is words ∙ reads.none) among)
  | inr refuses ↦ refuses.doubt
]
