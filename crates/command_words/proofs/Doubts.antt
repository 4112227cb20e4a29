-- What is doubtful stays so, whatever is read next.
use Rattle.std.proofs.Common.{◌≡◌, Bool, true, false, refl, sym, List, [], ◌∷◌, ◌||◌}
use Rattle.std.proofs.Common.{Option, Some, None, inl, inr, codes, true≢false}
use Rattle.std.specs.Prelude.{option_and_then}
use Rattle.std.specs.Str.{bytes_eq}
use Rattle.std.proofs.lemmas.Bool.{cases_Bool}
use Rattle.command_words.specs.Words.{Text, Given, Reading, Valued, Workers, Feeders, Shape, Ends}
use Rattle.command_words.specs.Words.{Long, Dashed, Plain, shape_of, shaped, named, valued, flagged}
use Rattle.command_words.specs.Words.{read_word, read_words, whole}
use Rattle.command_words.specs.Matching.{has_dash, IsDoubtful}

abbrev pub in_doubt : Given → Bool
in_doubt given = has_dash given.workers || has_dash given.feeders

abbrev pub MayDoubt : Option Reading → Type 0
MayDoubt None = Unit {0}
MayDoubt (Some reading) = in_doubt reading.given ≡ true

or_right : (a b : Bool) → b ≡ true → (a || b) ≡ true
or_right true b e = refl
or_right false b e = e

or_left : (a b : Bool) → a ≡ true → (a || b) ≡ true
or_left true b e = refl
or_left false b e = absurd (true≢false (sym e))

valued_doubt : (option : Valued) (value : Option Text) (workers feeders : Option Text)
    (places : List Text) (full : Bool) (wants : Option Valued) (ended : Bool)
    → (has_dash workers || has_dash feeders) ≡ true
    → MayDoubt (valued option value (record {
      given = record { places = places; workers = workers; feeders = feeders; is_full = full };
      wants = wants;
      is_ended = ended;
    }))
valued_doubt option None workers feeders places full wants ended doubt = doubt
valued_doubt Workers (Some v) None feeders places full wants ended doubt =
    or_right (has_dash (Some v)) (has_dash feeders) doubt
valued_doubt Workers (Some v) (Some w) feeders places full wants ended doubt = tt
valued_doubt Feeders (Some v) None None places full wants ended doubt =
    absurd (true≢false (sym doubt))
valued_doubt Feeders (Some v) (Some w) None places full wants ended doubt =
    elim (cases_Bool (has_dash (Some w))) [
      | inl dashed ↦ or_left (has_dash (Some w)) (has_dash (Some v)) dashed
      | inr not ↦ absurd (true≢false (sym (rw not at doubt)))
    ]
valued_doubt Feeders (Some v) workers (Some w) places full wants ended doubt = tt

flagged_doubt : (value : Option Text) (reading : Reading) → in_doubt reading.given ≡ true
    → MayDoubt (flagged value reading)
flagged_doubt (Some v) reading doubt = tt
flagged_doubt None reading doubt = elim (cases_Bool reading.given.is_full) [
  | inl full ↦ rw full tt
  | inr not ↦ rw not doubt
]

named_doubt : (name : Text) (value : Option Text) (reading : Reading)
    → in_doubt reading.given ≡ true → MayDoubt (named name value reading)
named_doubt name value reading doubt = elim (cases_Bool (bytes_eq (codes "workers") name)) [
  | inl is ↦ rw is (valued_doubt Workers value reading.given.workers reading.given.feeders
      reading.given.places reading.given.is_full reading.wants reading.is_ended doubt)
  | inr no_workers ↦ elim (cases_Bool (bytes_eq (codes "feeders") name)) [
    | inl is ↦ rw (no_workers, is) (valued_doubt Feeders value reading.given.workers
        reading.given.feeders reading.given.places reading.given.is_full reading.wants
        reading.is_ended doubt)
    | inr no_feeders ↦ elim (cases_Bool (bytes_eq (codes "full") name)) [
      | inl is ↦ rw (no_workers, no_feeders, is) (flagged_doubt value reading doubt)
      | inr no_full ↦ rw (no_workers, no_feeders, no_full) tt
    ]
  ]
]

shaped_doubt : (shape : Shape) (word : Text) (reading : Reading) → in_doubt reading.given ≡ true
    → MayDoubt (shaped shape word reading)
shaped_doubt Ends word reading doubt = doubt
shaped_doubt (Long name value) word reading doubt = named_doubt name value reading doubt
shaped_doubt Dashed word reading doubt = tt
shaped_doubt Plain word reading doubt = doubt

word_doubt : (workers feeders : Option Text) (places : List Text) (full : Bool)
    (wants : Option Valued) (ended : Bool) (word : Text)
    → (has_dash workers || has_dash feeders) ≡ true
    → MayDoubt (read_word (record {
      given = record { places = places; workers = workers; feeders = feeders; is_full = full };
      wants = wants;
      is_ended = ended;
    }) word)
word_doubt None feeders places full (Some Workers) ended word doubt =
    or_right (has_dash (Some word)) (has_dash feeders) doubt
word_doubt (Some w) feeders places full (Some Workers) ended word doubt = tt
word_doubt None None places full (Some Feeders) ended word doubt = absurd (true≢false (sym doubt))
word_doubt (Some w) None places full (Some Feeders) ended word doubt =
    elim (cases_Bool (has_dash (Some w))) [
      | inl dashed ↦ or_left (has_dash (Some w)) (has_dash (Some word)) dashed
      | inr not ↦ absurd (true≢false (sym (rw not at doubt)))
    ]
word_doubt workers (Some f) places full (Some Feeders) ended word doubt = tt
word_doubt workers feeders places full None true word doubt = doubt
word_doubt workers feeders places full None false word doubt =
    shaped_doubt (shape_of word) word _ doubt

whole_doubt : (reading : Reading) → in_doubt reading.given ≡ true → IsDoubtful (whole reading)
whole_doubt reading doubt = go reading.wants
  where
    go : (wants : Option Valued) → IsDoubtful (whole (record reading { wants = wants }))
    go None = doubt
    go (Some option) = tt

-- what is in doubt stays so to the end of the words
pub stays : (words : List Text) (reading : Option Reading) → MayDoubt reading
    → IsDoubtful (option_and_then whole (read_words reading words))
stays [] None may = tt
stays [] (Some reading) may = whole_doubt reading may
stays (word ∷ words) None may = stays words None tt
stays (word ∷ words) (Some reading) may = stays words (read_word reading word)
    (word_doubt reading.given.workers reading.given.feeders reading.given.places
    reading.given.is_full reading.wants reading.is_ended word may)
