-- From what is given to what is asked for.
use Rattle.std.proofs.Common.{◌≡◌, ◌∙◌, ℕ, Bool, true, false, refl, sym, ap, subst, List, [], ◌∷◌}
use Rattle.std.proofs.Common.{◌++◌}
use Rattle.std.proofs.Common.{◌||◌, Option, Some, None, inl, inr, codes, true≢false, drop, take}
use Rattle.std.specs.Prelude.{option_and_then, slice_get, is_some}
use Rattle.std.specs.Option.{option_map_or}
use Rattle.std.specs.Borrow.{Bor}
use Rattle.std.specs.Str.{bytes_eq, IsUtf8}
use Rattle.std.proofs.lemmas.Bool.{cases_Bool, eqb-true}
use Rattle.std.proofs.lemmas.Slice.Eq.{bytes_eq-Decides}
use Rattle.std.specs.List.{list_all}
use Rattle.std.specs.Prelude.{nat_le, ◌+◌, ◌-◌, ◌&&◌, length}
use Rattle.std.proofs.Common.{ap₂}
use Rattle.std.proofs.Math.Seq.{take-length}
use Rattle.std.proofs.lemmas.List.{length-map, length-drop, take-map, drop-map}
use Rattle.std.proofs.lemmas.List.Folds.{list_all-map}
use Rattle.clap.specs.declared.parser.matches.ArgMatches.{ArgMatches}
use Rattle.command_words.specs.Words.{Text, Given, texts, AreTexts, asked, given_by, task_of}
use Rattle.command_words.specs.Words.{is_file, recognise, grounding, simulate, live, workers_of}
use Rattle.command_words.specs.Words.{feeders_of}
use Rattle.command_words.specs.Words.{live_files, recognise_files, simulate_places, are_live, Live}
use Rattle.command_words.specs.Matching.{Holds, AreMatches, IsDoubtful, has_dash, is_dashed}
use Rattle.command_words.specs.Matching.{are_lent_live}

-- a value that begins with `-` is no number of workers, and none of feeders
no_workers : (value : Text) → is_dashed value ≡ true → workers_of (Some value) ≡ None
no_workers [] dash = absurd (true≢false (sym dash))
no_workers (c ∷ rest) dash =
    subst (λ d. workers_of (Some (d ∷ rest)) ≡ None) (sym (eqb-true c 45 dash)) refl

no_feeders : (value : Text) → is_dashed value ≡ true → feeders_of (Some value) ≡ None
no_feeders [] dash = absurd (true≢false (sym dash))
no_feeders (c ∷ rest) dash =
    subst (λ d. feeders_of (Some (d ∷ rest)) ≡ None) (sym (eqb-true c 45 dash)) refl

-- where one of two is dashed and the first is not there, the second is
second : (workers feeders : Option Text) → (has_dash workers || has_dash feeders) ≡ true
    → has_dash workers ≡ false → has_dash feeders ≡ true
second workers feeders doubt not = rw not at doubt

no_recognise : (places : List Text) (workers feeders : Option Text) (full : Bool)
    → (has_dash workers || has_dash feeders) ≡ true
    → None ≡ recognise (record {
      places = places;
      workers = workers;
      feeders = feeders;
      is_full = full;
    })
no_recognise places workers (Some f) full doubt = refl
no_recognise places workers None true doubt = refl
no_recognise places None None false doubt = absurd (true≢false (sym doubt))
no_recognise places (Some w) None false doubt = elim (cases_Bool (is_dashed w)) [
  | inl dash ↦ ap (option_and_then (recognise_files places)) (sym (no_workers w dash))
  | inr not ↦ absurd (true≢false (sym (second (Some w) None doubt not)))
]

no_ground : (places : List Text) (workers feeders : Option Text) (full : Bool)
    → (has_dash workers || has_dash feeders) ≡ true
    → None ≡ grounding (record {
      places = places;
      workers = workers;
      feeders = feeders;
      is_full = full;
    })
no_ground places (Some w) feeders full doubt = refl
no_ground places None (Some f) full doubt = refl
no_ground places None None full doubt = absurd (true≢false (sym doubt))

no_simulate : (places : List Text) (workers feeders : Option Text) (full : Bool)
    → (has_dash workers || has_dash feeders) ≡ true
    → None ≡ simulate (record {
      places = places;
      workers = workers;
      feeders = feeders;
      is_full = full;
    })
no_simulate places workers (Some f) full doubt = refl
no_simulate places None None full doubt = absurd (true≢false (sym doubt))
no_simulate places (Some w) None full doubt = elim (cases_Bool (is_dashed w)) [
  | inl dash ↦ ap (option_and_then (λ n. simulate_places places n full)) (sym (no_workers w dash))
  | inr not ↦ absurd (true≢false (sym (second (Some w) None doubt not)))
]

no_live : (places : List Text) (workers feeders : Option Text) (full : Bool)
    → (has_dash workers || has_dash feeders) ≡ true
    → None ≡ live (record {
      places = places;
      workers = workers;
      feeders = feeders;
      is_full = full;
    })
no_live places workers feeders true doubt = refl
no_live places workers None false doubt = refl
no_live places workers (Some f) false doubt = elim (cases_Bool (has_dash workers)) [
  | inl dash ↦ of_workers workers dash (feeders_of (Some f))
  | inr not ↦ ap (option_and_then (λ n. option_and_then (live_files places n) (workers_of workers)))
      (sym (no_feeders f (second workers (Some f) doubt not)))
]
  where
    of_workers : (given : Option Text) → has_dash given ≡ true → (n : Option ℕ)
        → None ≡ option_and_then (λ n. option_and_then (live_files places n) (workers_of given)) n
    of_workers given dash None = refl
    of_workers None dash (Some n) = absurd (true≢false (sym dash))
    of_workers (Some w) dash (Some n) =
        ap (option_and_then (live_files places n)) (sym (no_workers w dash))

-- what is doubtful is of no task
no_task : (command : Text) (given : Given)
    → (has_dash given.workers || has_dash given.feeders) ≡ true
    → None ≡ asked command given
no_task command given doubt = elim (cases_Bool (bytes_eq command (codes "recognise"))) [
  | inl is ↦ rw is (no_recognise given.places given.workers given.feeders given.is_full doubt)
  | inr one ↦ elim (cases_Bool (bytes_eq command (codes "ground"))) [
    | inl is ↦ rw (one, is) (no_ground given.places given.workers given.feeders given.is_full doubt)
    | inr two ↦ elim (cases_Bool (bytes_eq command (codes "simulate"))) [
      | inl is ↦ rw (one, two, is)
          (no_simulate given.places given.workers given.feeders given.is_full doubt)
      | inr three ↦ elim (cases_Bool (bytes_eq command (codes "live"))) [
        | inl is ↦ rw (one, two, three, is)
            (no_live given.places given.workers given.feeders given.is_full doubt)
        | inr four ↦ rw (one, two, three, four) refl
      ]
    ]
  ]
]

by_given : (command : Text) (given : Option Given) → IsDoubtful given
    → None ≡ option_and_then (asked command) given
by_given command None doubt = refl
by_given command (Some given) doubt = no_task command given doubt

pub none_asked : (words : List Text) → IsDoubtful (given_by (drop 1 words)) → None ≡ task_of words
none_asked [] doubt = refl
none_asked (command ∷ words) doubt = by_given command (given_by words) doubt

by_matches : (command : Text) (matches : ArgMatches) (given : Option Given) (lent : Given)
    → AreMatches given (Some matches) → ((told : Given) → Holds matches told → lent ≡ told)
    → asked command lent ≡ option_and_then (asked command) given
by_matches command matches None lent are tells = absurd are
by_matches command matches (Some given) lent are tells = ap (asked command) (tells given are)

pub task_asked : (command : Text) (words : List Text) (matches : ArgMatches) (lent : Given)
    → AreMatches (given_by words) (Some matches)
    → ((told : Given) → Holds matches told → lent ≡ told)
    → asked command lent ≡ task_of (command ∷ words)
task_asked command words matches lent are tells =
    by_matches command matches (given_by words) lent are tells

-- a command word that is none of the four
no_equal : (one two : Text) → (one ≡ two → ⊥) → bytes_eq one two ≡ false
no_equal one two apart = elim (cases_Bool (bytes_eq one two)) [
  | inl is ↦ absurd (apart ((bytes_eq-Decides one two).0 is))
  | inr not ↦ not
]

pub unknown : (command : Text) (given : Given) → (command ≡ codes "recognise" → ⊥)
    → (command ≡ codes "ground" → ⊥) → (command ≡ codes "simulate" → ⊥)
    → (command ≡ codes "live" → ⊥) → None ≡ asked command given
unknown command given one two three four =
    rw (
      no_equal command (codes "recognise") one,
      no_equal command (codes "ground") two,
      no_equal command (codes "simulate") three,
      no_equal command (codes "live") four,
    ) refl

-- one more text
pub more_texts : (words : List Text) (word : Text) → AreTexts words → IsUtf8 word
    → AreTexts (words ++ word ∷ [])
more_texts [] word are is = (is, tt)
more_texts (first ∷ words) word are is = (are.0, more_texts words word are.1 is)

pub some_asked : (words : List (Bor Text)) (first : Bor Text) → Some first ≡ slice_get words 0
    → (matches : ArgMatches) (lent : Given)
    → AreMatches (given_by (drop 1 (texts words))) (Some matches)
    → ((told : Given) → Holds matches told → lent ≡ told)
    → asked first.now lent ≡ task_of (texts words)
some_asked [] first is matches lent are tells =
    absurd (true≢false (ap is_some is))
some_asked (word ∷ words) first is matches lent are tells =
    ap (λ (o : Option (Bor Text)). asked (option_map_or (λ b. b.now) o []) lent) is
    ∙ task_asked word.now (texts words) matches lent are tells

pub all_files : (words : List (Bor Text)) → list_all is_file (texts words)
    ≡ list_all (λ w. is_file w.now) words
all_files words = list_all-map is_file (λ w. w.now) words

and_true : (a b : Bool) → (a && (b && true)) ≡ (a && b)
and_true false b = refl
and_true true false = refl
and_true true true = refl

pub live_is : (description clock : Text) (scripts : List (Bor Text)) (feeders : ℕ)
    → are_lent_live description clock scripts feeders
    ≡ are_live (description ∷ clock ∷ []) (texts scripts) feeders
live_is description clock scripts feeders =
    rw (all_files scripts, length-map scripts (λ (w : Bor Text). w.now))
    (ap (λ both. both && list_all (λ (w : Bor Text). is_file w.now) scripts
    && nat_le feeders (length scripts) && nat_le (length scripts) (feeders + 8))
    (sym (and_true (is_file description) (is_file clock))))

pub live_task : (description clock : Text) (scripts : List (Bor Text)) (feeders workers : ℕ)
    (ones others : List Text) → are_lent_live description clock scripts feeders ≡ true
    → ones ≡ texts (take feeders scripts)
    → others ≡ texts (take (length scripts - feeders) (drop feeders scripts))
    → Some (Live description clock ones others workers)
    ≡ live_files (description ∷ clock ∷ texts scripts) feeders workers
live_task description clock scripts feeders workers ones others is first then =
    let test : are_live (description ∷ clock ∷ []) (texts scripts) feeders ≡ true =
    sym (live_is description clock scripts feeders) ∙ is in
    let rest : take (length scripts - feeders) (drop feeders scripts) ≡ drop feeders scripts =
    ap (λ n. take n (drop feeders scripts)) (sym (length-drop feeders scripts))
    ∙ take-length (drop feeders scripts) in
    rw test (ap₂ (λ a b. Some (Live description clock a b workers))
    (first ∙ sym (take-map (λ (w : Bor Text). w.now) feeders scripts))
    (then ∙ ap texts rest ∙ sym (drop-map (λ (w : Bor Text). w.now) feeders scripts)))

pub not_live : (description clock : Text) (scripts : List (Bor Text)) (feeders workers : ℕ)
    → are_lent_live description clock scripts feeders ≡ false
    → None ≡ live_files (description ∷ clock ∷ texts scripts) feeders workers
not_live description clock scripts feeders workers is =
    let test : are_live (description ∷ clock ∷ []) (texts scripts) feeders ≡ false =
    sym (live_is description clock scripts feeders) ∙ is in
    rw test refl
