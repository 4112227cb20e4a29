-- Words that wait for the first query that has their point, and one more of them.
use Rattle.std.proofs.Common.{◌≡◌, ◌≢◌, ◌⊎◌, inl, inr, ℕ, ◌+◌, ◌-◌, ◌*◌, ◌<◌, ◌≤◌, Bool}
use Rattle.std.proofs.Common.{true, false, cond, ◌&&◌, eqb, List, [], ◌∷◌, ◌++◌, length}
use Rattle.std.proofs.Common.{reverse, replicate, get_or, set, Option, Some, refl, sym, ap}
use Rattle.std.proofs.Common.{subst, ◌∙◌, arith, true≢false}
use Rattle.std.specs.List.{find}
use Rattle.std.specs.Option.{is_some, option_map, unwrap_or}
use Rattle.std.proofs.Math.Nat.{mul-le-mul_right}
use Rattle.std.proofs.lemmas.Bool.{eqb-true}
use Rattle.std.proofs.lemmas.Bool.Decides.{nat_tests}
use Rattle.std.proofs.lemmas.List.{reverse-append, get_or-set_same, get_or-set_other, length-set}
use Rattle.std.proofs.lemmas.List.{get_or-replicate, get_or_past, length-replicate}
use Rattle.rt_base.proofs.Numbers.{le_or_above, equal_from_bounds}
use Rattle.ground_types.proofs.Members.{and_left, and_right}
use Rattle.ground_types.specs.History.{stands, counts_for, is_add}
use Rattle.ground_types.specs.Windows.{right}
use Rattle.ground_types.specs.declared.entries.Entry.{Entry}
use Rattle.ground_types.specs.declared.plan.Plan.{Plan}
use Rattle.ground_types.specs.declared.program.Program.{Program}
use Rattle.span_algebra.specs.Normal.{has}
use Rattle.event_store.specs.Standing.{Events, standing}
use Rattle.event_store.specs.Words.{is_on, last_word, after_words}
use Rattle.event_store.specs.declared.told.Told.{Told}
use Rattle.delay_revise.specs.Going.{IsDue, AreTold}

-- Windows in their order

right_up : (plan : Plan) (j k : ℕ) → j ≤ k → right plan j ≤ right plan k
right_up plan j k below = omega (arith, mul-le-mul_right plan.step below)

-- so many whole steps after a window, and no more, fit before a point
beyond_right : (plan : Plan) (k b t : ℕ) → right plan k < t
    → b * plan.step ≤ t - right plan k - 1 → right plan (k + b) < t
beyond_right plan k b t after down = omega arith

up_to_next : (plan : Plan) (k b t : ℕ) → right plan k < t
    → t - right plan k - 1 < (b + 1) * plan.step → t ≤ right plan (k + 1 + b)
up_to_next plan k b t after up = omega arith

pub due_beyond : (plan : Plan) (k b t : ℕ) → right plan k < t
    → b * plan.step ≤ t - right plan k - 1 → t - right plan k - 1 < (b + 1) * plan.step
    → IsDue plan k (k + 1 + b) t
due_beyond plan k b t after down up = record {
  from = omega arith;
  within = up_to_next plan k b t after up;
  first = λ j low below. omega (
    arith,
    beyond_right plan k b t after down,
    right_up plan j (k + b) (omega arith),
  );
}

pub none_beyond : (plan : Plan) (k b t q : ℕ) → right plan k < t
    → b * plan.step ≤ t - right plan k - 1 → q ≤ k + b → IsDue plan k q t → ⊥
none_beyond plan k b t q after down few due = omega (
  arith,
  due.within,
  beyond_right plan k b t after down,
  right_up plan q (k + b) few,
)

-- a point has one such query
due_below : (plan : Plan) (k q other t : ℕ) → IsDue plan k q t → IsDue plan k other t
    → q < other → ⊥
due_below plan k q other t one two below = omega (arith, one.within, two.first q one.from below)

due_once : (plan : Plan) (k q other t : ℕ) → IsDue plan k q t → IsDue plan k other t
    → q ≡ other
due_once plan k q other t one two = equal_from_bounds q other
    (due_below plan k q other t one two) (due_below plan k other q t two one)

-- One more entry

one_more_stands : (b : Bool) (entry : Entry) (others : Option Entry)
    → is_add (cond b (Some entry) others) ≡ cond b (is_add (Some entry)) (is_add others)
one_more_stands true entry others = refl
one_more_stands false entry others = refl

-- the last entry that counts says whether an event stands
pub stands_push : (history : List Entry) (entry : Entry) (event t : ℕ)
    → stands (history ++ entry ∷ []) event t
    ≡ cond (counts_for event t entry) (is_add (Some entry)) (stands history event t)
stands_push history entry event t =
    ap (λ (l : List Entry). is_add (find (counts_for event t) l))
    (reverse-append history (entry ∷ []))
    ∙ one_more_stands (counts_for event t entry) entry (find (counts_for event t) (reverse history))

-- One more word

one_more_last : (words : List Told) (word : Told) (event t : ℕ)
    → last_word (words ++ word ∷ []) event t
    ≡ cond (is_on event t word) (Some word.stands) (last_word words event t)
one_more_last words word event t =
    ap (λ (l : List Told). option_map (λ w. w.stands) (find (is_on event t) l))
    (reverse-append words (word ∷ [])) ∙ by (is_on event t word)
  where
    by : (b : Bool) → option_map (λ w. w.stands) (cond b (Some word)
        (find (is_on event t) (reverse words)))
        ≡ cond b (Some word.stands) (last_word words event t)
    by true = refl
    by false = refl

-- the list of one query is another
set_words : (ahead : List (List Told)) (q other : ℕ) (words : List Told) → q < length ahead
    → get_or (set ahead q words) other [] ≡ cond (eqb q other) words (get_or ahead other [])
set_words ahead q other words within = by (eqb q other) refl
  where
    by : (b : Bool) → eqb q other ≡ b → get_or (set ahead q words) other []
        ≡ cond b words (get_or ahead other [])
    by true same = subst (λ (o : ℕ). get_or (set ahead q words) o [] ≡ words)
        (eqb-true q other same) (get_or-set_same ahead q words [] within)
    by false apart = let ne : other ≢ q = λ e. absurd (grind (arith, nat_tests, apart)) in
        get_or-set_other ahead q other words [] ne

-- and with it the last word
put_last : (ahead : List (List Told)) (q other : ℕ) (word : Told) (event t : ℕ)
    → q < length ahead
    → last_word (get_or (set ahead q (get_or ahead q [] ++ word ∷ [])) other []) event t
    ≡ cond (eqb q other && is_on event t word) (Some word.stands)
    (last_word (get_or ahead other []) event t)
put_last ahead q other word event t within =
    ap (λ (l : List Told). last_word l event t)
    (set_words ahead q other (get_or ahead q [] ++ word ∷ []) within)
    ∙ by (eqb q other) refl
  where
    by : (b : Bool) → eqb q other ≡ b
        → last_word (cond b (get_or ahead q [] ++ word ∷ []) (get_or ahead other [])) event t
        ≡ cond (b && is_on event t word) (Some word.stands)
        (last_word (get_or ahead other []) event t)
    by true same = one_more_last (get_or ahead q []) word event t
        ∙ ap (λ (o : ℕ). cond (is_on event t word) (Some word.stands)
        (last_word (get_or ahead o []) event t)) (eqb-true q other same)
    by false apart = refl

-- the word on a point
on_point : (event t : ℕ) (word : Told) → is_on event t word ≡ true
    → (word.event ≡ event) × (word.at ≡ t)
on_point event t word on = (grind (arith, nat_tests, on), grind (arith, nat_tests, on))

-- a word is what an entry says
pub record IsWordOf (entry : Entry) (word : Told) : Type 0 where
  pub on : (event t : ℕ) → counts_for event t entry ≡ is_on event t word
  pub says : is_add (Some entry) ≡ word.stands

joined : (b c : Bool) (says add : Bool) (last : Option Bool) (before stood : Bool) → b ≡ c
    → add ≡ says → unwrap_or last before ≡ stood
    → unwrap_or (cond b (Some says) last) before ≡ cond c add stood
joined true true says add last before stood same add_is was = sym add_is
joined true false says add last before stood same add_is was = absurd (true≢false same)
joined false true says add last before stood same add_is was = absurd (true≢false (sym same))
joined false false says add last before stood same add_is was = was

-- a test that is the first of two where the second is true
both_tests : (a b : Bool) → (b ≡ true → a ≡ true) → (a && b) ≡ b
both_tests true b first = refl
both_tests false true first = first refl
both_tests false false first = refl

either_word : (P : Type 0) (b : Bool) (says : Bool) (last : Option Bool) → (b ≡ true → P)
    → (is_some last ≡ true → P) → is_some (cond b (Some says) last) ≡ true → P
either_word P true says last one other some = one refl
either_word P false says last one other some = other some

same_is_eqb : (a b : ℕ) → a ≡ b → eqb a b ≡ true
same_is_eqb a b same = grind (arith, nat_tests)

-- an entry is brought as a word for the first query that has its point
pub told_word : (program : Program) (entries : List Entry) (entry : Entry) (word : Told) (k q : ℕ)
    (store : Events) (ahead new : List (List Told)) → IsWordOf entry word
    → word.event < program.events → q < program.plan.queries → IsDue program.plan k q word.at
    → new ≡ set ahead q (get_or ahead q [] ++ word ∷ [])
    → AreTold program entries k store ahead
    → AreTold program (entries ++ entry ∷ []) k store new
told_word program entries entry word k q store ahead new is known within due new_is told =
    record {
      size = ap (λ (l : List (List Told)). length l) new_is
          ∙ length-set ahead q (get_or ahead q [] ++ word ∷ []) ∙ told.size;
      words = λ event t other after few here.
          ap (λ (o : Option Bool). unwrap_or o (has (standing store event) t)) (last event t other)
          ∙ joined _ (counts_for event t entry) word.stands (is_add (Some entry))
          (last_word (get_or ahead other []) event t) (has (standing store event) t)
          (stands entries event t)
          (both_tests (eqb q other) (is_on event t word) (λ on. same_is_eqb q other
          (due_once program.plan k q other t (at_point event t on) here))
          ∙ sym (is.on event t))
          is.says (told.words event t other after few here)
          ∙ sym (stands_push entries entry event t);
      due = λ other event t low some. either_word (IsDue program.plan k other t)
          (eqb q other && is_on event t word) word.stands
          (last_word (get_or ahead other []) event t)
          (λ both. subst (λ (o : ℕ). IsDue program.plan k o t)
          (eqb-true q other (and_left _ _ both)) (at_point event t (and_right _ _ both)))
          (told.due other event t low) (some_last event t other some);
      ahead_known = λ other event t some. either_word (event < program.events)
          (eqb q other && is_on event t word) word.stands
          (last_word (get_or ahead other []) event t)
          (λ both. subst (λ (e : ℕ). e < program.events)
          (on_point event t word (and_right _ _ both)).0 known)
          (told.ahead_known other event t) (some_last event t other some);
      known = told.known;
    }
  where
    last : (event t other : ℕ) → last_word (get_or new other []) event t
        ≡ cond (eqb q other && is_on event t word) (Some word.stands)
        (last_word (get_or ahead other []) event t)
    last event t other = ap (λ (l : List (List Told)). last_word (get_or l other []) event t) new_is
        ∙ put_last ahead q other word event t (omega (arith, told.size))

    some_last : (event t other : ℕ) → is_some (last_word (get_or new other []) event t) ≡ true
        → is_some (cond (eqb q other && is_on event t word) (Some word.stands)
        (last_word (get_or ahead other []) event t)) ≡ true
    some_last event t other some = sym (ap (λ (o : Option Bool). is_some o) (last event t other))
        ∙ some

    at_point : (event t : ℕ) → is_on event t word ≡ true → IsDue program.plan k q t
    at_point event t on = subst (λ (p : ℕ). IsDue program.plan k q p)
        (on_point event t word on).1 due

same_everywhere : (n q : ℕ) (words : List Told) → get_or (replicate n words) q words ≡ words
same_everywhere n q words = by (le_or_above n q)
  where
    by : (n ≤ q) ⊎ (q < n) → get_or (replicate n words) q words ≡ words
    by (inl past) = get_or_past (replicate n words) q words
        (omega (arith, length-replicate n words))
    by (inr below) = get_or-replicate n q words words below

no_words : (n q : ℕ) (ahead : List (List Told)) → ahead ≡ replicate n [] → get_or ahead q [] ≡ []
no_words n q ahead empty = ap (λ (l : List (List Told)). get_or l q []) empty
    ∙ same_everywhere n q []

-- nothing is told
pub told_first : (program : Program) (ahead : List (List Told)) (store : Events)
    → ((event : ℕ) → standing store event ≡ [])
    → ahead ≡ replicate program.plan.queries [] → AreTold program [] 0 store ahead
told_first program ahead store nothing empty = record {
  size = ap (λ (l : List (List Told)). length l) empty ∙ length-replicate program.plan.queries [];
  words = λ event t q after few due.
      ap (λ (l : List Told). after_words l event t (has (standing store event) t)) (silent q)
      ∙ ap (λ (l : List ℕ). has l t) (nothing event);
  due = λ q event t low some. absurd (no_word q event t some);
  ahead_known = λ q event t some. absurd (no_word q event t some);
  known = λ event t some. absurd (true≢false (sym some ∙ ap (λ (l : List ℕ). has l t)
      (nothing event)));
}
  where
    silent : (q : ℕ) → get_or ahead q [] ≡ []
    silent q = no_words program.plan.queries q ahead empty

    no_word : (q event t : ℕ) → is_some (last_word (get_or ahead q []) event t) ≡ true → ⊥
    no_word q event t some = true≢false (sym some
        ∙ ap (λ (l : List Told). is_some (last_word l event t)) (silent q))

-- another store in which the same stands
pub told_same : (program : Program) (entries : List Entry) (k : ℕ) (store new : Events)
    (ahead : List (List Told)) → ((event : ℕ) → standing new event ≡ standing store event)
    → AreTold program entries k store ahead → AreTold program entries k new ahead
told_same program entries k store new ahead same told = record {
  size = told.size;
  words = λ event t q after few due.
      ap (λ (l : List ℕ). after_words (get_or ahead q []) event t (has l t)) (same event)
      ∙ told.words event t q after few due;
  due = told.due;
  ahead_known = told.ahead_known;
  known = λ event t some. told.known event t
      (sym (ap (λ (l : List ℕ). has l t) (same event)) ∙ some);
}
