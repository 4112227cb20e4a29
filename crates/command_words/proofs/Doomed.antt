-- Walks of `clap` that fail, whatever is read next: an option is used wrongly, and this is found
-- later.
use Rattle.std.proofs.Common.{◌≡◌, ℕ, Bool, true, false, refl, sym, ap, subst, List, [], ◌∷◌}
use Rattle.std.proofs.Common.{◌&&◌, Option, Some, None, inl, inr, codes, true≢false, arith}
use Rattle.std.specs.Prelude.{fold, slice_get, encode_utf8_all, ◌==◌}
use Rattle.std.specs.Str.{bytes_eq, chars, IsUtf8, IsCharBoundary}
use Rattle.std.proofs.lemmas.Bool.{cases_Bool}
use Rattle.std.proofs.lemmas.Str.{encodes-chars, IsUtf8-drop, IsCharBoundary-after_ascii}
use Rattle.std.proofs.lemmas.Bool.{eqb-true}
use Rattle.clap.specs.Lexer.{long_of, short_of}
use Rattle.clap.specs.Walk.{Row, Text, Held, Walk, Waiting, idle, option, positional, value}
use Rattle.clap.specs.Walk.{subcommand_met, plain_word, is_pending, arg_by_long, walked}
use Rattle.clap.specs.Kinds.{Kinds, or_else}
use Rattle.clap.specs.Faults.{turn_fault, walk_fault, settle_fault, positional_fault, long_fault}
use Rattle.clap.specs.Faults.{flags_fault}
use Rattle.clap.specs.declared.error.kind.ErrorKind.{ErrorKind}
use Rattle.clap.specs.declared.error.kind.ErrorKind.TheVariants as kind
use Rattle.command_words.specs.Words.{shape_of, Plain, Dashed, Long}
use Rattle.command_words.specs.Matching.{is_dashed}
use Rattle.command_words.specs.Words.{AreTexts}
use Rattle.command_words.proofs.Grammar.{top, rules}
use Rattle.command_words.proofs.Shown.{places_built}

-- ---- what a word looks like

pub data Looks (word : Text) : Type 0 where
  plain : bytes_eq word (45 ∷ 45 ∷ []) ≡ false → long_of word ≡ None → short_of word ≡ None
      → shape_of word ≡ Plain → Looks word
  ends : word ≡ 45 ∷ 45 ∷ [] → Looks word
  dashed : (first x : ℕ) (rest : Text) → bytes_eq word (45 ∷ 45 ∷ []) ≡ false
      → long_of word ≡ None → short_of word ≡ Some (first ∷ rest)
      → slice_get (chars (first ∷ rest)) 0 ≡ Some x → shape_of word ≡ Dashed
      → is_dashed word ≡ true → Looks word
  long : (name : Text) (v : Option Text) → bytes_eq word (45 ∷ 45 ∷ []) ≡ false
      → long_of word ≡ Some (name, v) → shape_of word ≡ Long name v → is_dashed word ≡ true
      → Looks word

abbrev is_nil : Text → Bool
is_nil [] = true
is_nil (c ∷ rest) = false

-- text that is not empty has a first character
first_char : (first : ℕ) (rest : Text) → IsUtf8 (first ∷ rest)
    → (x : ℕ) × (slice_get (chars (first ∷ rest)) 0 ≡ Some x)
first_char first rest text = go (chars (first ∷ rest)) (encodes-chars (first ∷ rest) text)
  where
    go : (cs : List ℕ) → encode_utf8_all cs ≡ first ∷ rest
        → (x : ℕ) × (slice_get cs 0 ≡ Some x)
    go [] e = absurd (true≢false (ap is_nil e))
    go (c ∷ cs) e = (c, refl)

looks_long : (rest : Text) → Looks (45 ∷ 45 ∷ rest)
looks_long [] = ends refl
looks_long (c ∷ rest) = long _ _ refl refl refl refl

looks_dash : (rest : Text) → IsUtf8 (45 ∷ rest) → Looks (45 ∷ rest)
looks_dash [] text = plain refl refl refl refl
looks_dash (first ∷ rest) text = elim (cases_Bool (first == 45)) [
  | inl is ↦ subst (λ c. Looks (45 ∷ c ∷ rest)) (sym (eqb-true first 45 is)) (looks_long rest)
  | inr not ↦
      let cut : IsCharBoundary (45 ∷ first ∷ rest) 1 =
      IsCharBoundary-after_ascii (45 ∷ first ∷ rest) 0 text (omega arith) (omega arith) in
      let after : IsUtf8 (first ∷ rest) = IsUtf8-drop (45 ∷ first ∷ rest) 1 text cut in
      let found = first_char first rest after in
      dashed first found.0 rest (rw not refl) (rw not refl) (rw not refl) found.1 (rw not refl) refl
]

pub looks : (word : Text) → IsUtf8 word → Looks word
looks [] text = plain refl refl refl refl
looks (first ∷ rest) text = elim (cases_Bool (first == 45)) [
  | inl is ↦
      let e : first ≡ 45 = eqb-true first 45 is in
      subst (λ c. Looks (c ∷ rest)) (sym e)
      (looks_dash rest (subst (λ c. IsUtf8 (c ∷ rest)) e text))
  | inr not ↦ plain (rw not refl) (rw not refl) (rw not refl) (rw not refl)
]

-- ---- faults

abbrev pub held_at : List Row → Option (Text × List Text) → Held
held_at rows p = record { rows = rows; pending = p; skip = 0 }

abbrev pub walk_at : Held → Waiting → Bool → Walk
walk_at h waiting ended = record {
  held = h;
  waiting = waiting;
  position = 1;
  is_trailing = ended;
  stopped = None;
}

-- the fault of a walk over words, and then of what is pending at their end
abbrev pub comes_to : Walk → List Text → Kinds
comes_to w words = or_else (walk_fault top [] w words)
    (settle_fault rules false (fold (walked rules []) w words).held)

abbrev pub Fails : Kinds → Type 0
Fails kinds = (k : ErrorKind) × (ks : Kinds) × (kinds ≡ k ∷ ks)

pub first_fails : (one two : Kinds) → Fails one → Fails (or_else one two)
first_fails one two f = (f.0, f.1, ap (λ ks. or_else ks two) f.2)

pub turn_fails : (w : Walk) (word : Text) (words : List Text) → Fails (turn_fault top [] w word)
    → Fails (comes_to w (word ∷ words))
unfolding walk_fault
turn_fails w word words f = first_fails _ _ (first_fails _ _ f)

pub turn_passes : (w : Walk) (word : Text) (words : List Text) → turn_fault top [] w word ≡ []
    → comes_to w (word ∷ words) ≡ comes_to (walked rules [] w word) words
unfolding walk_fault
turn_passes w word words none =
    ap (λ ks. or_else (or_else ks (walk_fault top [] (walked rules [] w word) words))
    (settle_fault rules false (fold (walked rules []) (walked rules [] w word) words).held)) none

pub no_words : (w : Walk) → comes_to w [] ≡ settle_fault rules false w.held
unfolding walk_fault
no_words w = refl

pub and_false : (b : Bool) → (b && false) ≡ false
and_false true = refl
and_false false = refl

-- no word names a subcommand
pub no_command : (waiting : Waiting) (word : Text) → subcommand_met [] waiting word ≡ None
no_command idle word = refl
no_command (option id) word = refl
no_command positional word = refl

-- a place settles what was pending
pub place_fault : (h : Held) → positional_fault rules false places_built h
    ≡ settle_fault rules false h
place_fault h = rw (and_false (is_pending places_built h.pending)) refl

-- an option settles what was pending, or is none
pub long_fails : (name : Text) (v : Option Text) (h : Held) → Fails (settle_fault rules false h)
    → Fails (long_fault rules false (arg_by_long rules name) v h)
long_fails name v h f = elim (cases_Bool (bytes_eq (codes "workers") name)) [
  | inl is ↦ rw is (by_value v)
  | inr no_workers ↦ elim (cases_Bool (bytes_eq (codes "feeders") name)) [
    | inl is ↦ rw (no_workers, is) (by_feeders v)
    | inr no_feeders ↦ elim (cases_Bool (bytes_eq (codes "full") name)) [
      | inl is ↦ rw (no_workers, no_feeders, is) (by_full v)
      | inr no_full ↦ rw (no_workers, no_feeders, no_full) (kind.UnknownArgument, [], refl)
    ]
  ]
]
  where
    by_value : (v : Option Text)
        → Fails (long_fault rules false (arg_by_long rules (codes "workers")) v h)
    by_value None = f
    by_value (Some text) = first_fails _ _ f

    by_feeders : (v : Option Text)
        → Fails (long_fault rules false (arg_by_long rules (codes "feeders")) v h)
    by_feeders None = f
    by_feeders (Some text) = first_fails _ _ f

    by_full : (v : Option Text)
        → Fails (long_fault rules false (arg_by_long rules (codes "full")) v h)
    by_full None = first_fails _ _ f
    by_full (Some text) = (kind.TooManyValues, [], refl)

-- a word that begins with one `-` names nothing
pub dash_fails : (h : Held) (waiting : Waiting) (word : Text) (first x : ℕ) (rest : Text)
    (rows : List Row) (p : Option (Text × List Text))
    → bytes_eq word (45 ∷ 45 ∷ []) ≡ false
    → long_of word ≡ None → short_of word ≡ Some (first ∷ rest)
    → slice_get (chars (first ∷ rest)) 0 ≡ Some x
    → Fails (turn_fault top [] (walk_at (held_at rows p) waiting false) word)
unfolding flags_fault
dash_fails h waiting word first x rest rows p e1 e2 e3 e4 =
    (kind.UnknownArgument, [], rw (no_command waiting word, e1, e2, e3, e4) refl)

-- a long word that fails by itself
pub long_turn : (rows : List Row) (p : Option (Text × List Text)) (waiting : Waiting) (word : Text)
    (name : Text) (v : Option Text) → bytes_eq word (45 ∷ 45 ∷ []) ≡ false
    → long_of word ≡ Some (name, v)
    → Fails (long_fault rules false (arg_by_long rules name) v (held_at rows p))
    → Fails (turn_fault top [] (walk_at (held_at rows p) waiting false) word)
long_turn rows p waiting word name v e1 e2 f =
    rw (no_command waiting word, e1, e2) (first_fails _ _ f)

-- ---- doomed walks

-- behind `--`
pub ended_fails : (words : List Text) (rows : List Row) (p : Option (Text × List Text))
    (waiting : Waiting) → Fails (settle_fault rules false (held_at rows p))
    → Fails (comes_to (walk_at (held_at rows p) waiting true) words)
ended_fails [] rows p waiting f = rw (no_words (walk_at (held_at rows p) waiting true)) f
ended_fails (word ∷ words) rows p waiting f =
    turn_fails (walk_at (held_at rows p) waiting true) word words
    (rw (place_fault (held_at rows p)) f)

-- a word that is no option goes to a place
abbrev pub IsQuiet : Waiting → Type 0
IsQuiet waiting = (word : Text) (h : Held) → plain_word rules waiting word h ≡ (h, value)

pub open_fails : (words : List Text) (rows : List Row) (p : Option (Text × List Text))
    (waiting : Waiting) → IsQuiet waiting → AreTexts words
    → Fails (settle_fault rules false (held_at rows p))
    → Fails (comes_to (walk_at (held_at rows p) waiting false) words)
unfolding walked
open_fails [] rows p waiting quiet texts f =
    rw (no_words (walk_at (held_at rows p) waiting false)) f
open_fails (word ∷ words) rows p waiting quiet texts f = by (looks word texts.0)
  where
    by : Looks word → Fails (comes_to (walk_at (held_at rows p) waiting false) (word ∷ words))
    by (plain e1 e2 e3 e4) = turn_fails (walk_at (held_at rows p) waiting false) word words
        (rw (
          no_command waiting word,
          e1,
          e2,
          e3,
          quiet word (held_at rows p),
          place_fault (held_at rows p),
        ) f)
    by (dashed first x rest e1 e2 e3 e4 e5 e6) =
        turn_fails (walk_at (held_at rows p) waiting false) word words
        (dash_fails (held_at rows p) waiting word first x rest rows p e1 e2 e3 e4)
    by (long name v e1 e2 e3 e4) = turn_fails (walk_at (held_at rows p) waiting false) word words
        (long_turn rows p waiting word name v e1 e2 (long_fails name v (held_at rows p) f))
    by (ends e) = subst (λ x. Fails (comes_to (walk_at (held_at rows p) waiting false) (x ∷ words)))
        (sym e)
        (rw (turn_passes (walk_at (held_at rows p) waiting false) (45 ∷ 45 ∷ []) words
        (rw (no_command waiting (45 ∷ 45 ∷ [])) refl))
        (rw (no_command waiting (45 ∷ 45 ∷ [])) (ended_fails words rows p waiting f)))
