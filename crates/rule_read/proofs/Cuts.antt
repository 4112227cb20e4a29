-- The line of some tokens is cut into these tokens and a dot.
use Rattle.std.proofs.Common.{◌≡◌, ℕ, suc, ◌+◌, ◌<◌, Bool, true, false, ◌&&◌, List, [], ◌∷◌, ◌++◌}
use Rattle.std.proofs.Common.{length, take, refl, sym, ap, subst, ◌∙◌, append_assoc, arith}
use Rattle.std.specs.List.{list_all, prefix_len}
use Rattle.std.specs.Prelude.{if◌then◌else◌, take_while}
use Rattle.std.proofs.lemmas.Bool.Decides.{nat_tests}
use Rattle.rt_base.specs.Kinds.{is_letter}
use Rattle.std.proofs.lemmas.Bool.{and_parts}
use Rattle.rule_read.specs.declared.token.Class.{Class}
use Rattle.rule_read.specs.declared.token.Class.TheVariants as class
use Rattle.rule_read.specs.declared.token.Mark.{Mark}
use Rattle.rule_read.specs.declared.token.Mark.TheVariants.{Open, Close, OpenList, CloseList, Comma}
use Rattle.rule_read.specs.declared.token.Mark.TheVariants.{Equals, If, Differs, Stray}
use Rattle.rule_read.specs.Bytes.{class_of}
use Rattle.rule_read.specs.Tokens.{Token, Word, Sign, Said, Dot, Placed, Text, put, cut, pieces}
use Rattle.rule_read.specs.Tokens.{at_byte}
use Rattle.rule_forms.specs.Sound.{AllOf}
use Rattle.rule_read.specs.Canonical.{mark_bytes, token_bytes, space_between, line_of}
use Rattle.rule_read.specs.Printed.{space_behind}
use Rattle.rule_read.proofs.ByToken.{line_more}

-- a token that is written so that it is read again
abbrev pub IsWritten : Token → Type 0
IsWritten (Word w) = (list_all is_letter w ≡ true) × (0 < length w)
IsWritten (Sign Stray) = ⊥
IsWritten (Sign _) = Unit {0}

abbrev pub said_on : ℕ → List Token → List Placed → List Placed
said_on line [] rest = rest
said_on line (t ∷ ts) rest = put line (Said t) (said_on line ts rest)

-- what follows is no part of a word
abbrev NoLetter : List ℕ → Type 0
NoLetter [] = Unit {0}
NoLetter (b ∷ bs) = is_letter b ≡ false

abbrev of_letter : Class → Bool
of_letter class.Letter = true
of_letter _ = false

is_letter_class : (b : ℕ) → is_letter b ≡ true → class_of b ≡ class.Letter
unfolding class_of
is_letter_class b h = rw h refl

no_letter_class : (b : ℕ) → is_letter b ≡ false → of_letter (class_of b) ≡ false
unfolding class_of
no_letter_class b h = grind (arith, nat_tests)

-- behind a word every other byte is read as it would be anyway
begins_anew : (k : Class) (line b : ℕ) (bs : List ℕ) → of_letter k ≡ false
    → at_byte k line true b bs (λ at mode. cut at mode bs) ≡ at_byte k line false b bs (λ at mode.
    cut at mode bs)
begins_anew class.Letter line b bs h = absurd cc
begins_anew _ line b bs h = refl

word_ends : (line : ℕ) (w rest : List ℕ) → list_all is_letter w ≡ true → NoLetter rest
    → cut line (Text true) (w ++ rest) ≡ pieces line rest
unfolding cut
word_ends line [] [] h ends = refl
word_ends line [] (b ∷ bs) h ends = begins_anew (class_of b) line b bs (no_letter_class b ends)
word_ends line (b ∷ w) rest h ends =
    let p = and_parts (is_letter b) (list_all is_letter w) h in
    ap (λ k. at_byte k line true b (w ++ rest) (λ at mode. cut at mode (w ++ rest)))
    (is_letter_class b p.0) ∙ word_ends line w rest p.1 ends

one_more : (n b : ℕ) (bs : List ℕ) → take (1 + n) (b ∷ bs) ≡ b ∷ take n bs
one_more n b bs = let e : 1 + n ≡ suc n = omega arith in rw e refl

takes_word : (w rest : List ℕ) → list_all is_letter w ≡ true → NoLetter rest
    → take_while is_letter (w ++ rest) ≡ w
takes_word [] [] h ends = refl
takes_word [] (b ∷ bs) h ends = rw ends refl
takes_word (b ∷ w) rest h ends =
    let p = and_parts (is_letter b) (list_all is_letter w) h in
    rw p.0 (one_more (prefix_len is_letter (w ++ rest)) b (w ++ rest)
    ∙ ap (λ (bs : List ℕ). b ∷ bs) (takes_word w rest p.1 ends))

word_cut : (line : ℕ) (w rest : List ℕ) → IsWritten (Word w) → NoLetter rest
    → pieces line (w ++ rest) ≡ put line (Said (Word w)) (pieces line rest)
unfolding cut
word_cut line [] rest h ends = absurd (omega (arith, h.1))
word_cut line (b ∷ w) rest h ends =
    let p = and_parts (is_letter b) (list_all is_letter w) h.0 in
    ap (λ k. at_byte k line false b (w ++ rest) (λ at mode. cut at mode (w ++ rest)))
    (is_letter_class b p.0)
    ∙ ap (λ word. put line (Said (Word word)) (cut line (Text true) (w ++ rest)))
    (takes_word (b ∷ w) rest h.0 ends)
    ∙ ap (put line (Said (Word (b ∷ w)))) (word_ends line w rest p.1 ends)

mark_cut : (line : ℕ) (m : Mark) (rest : List ℕ) → IsWritten (Sign m)
    → pieces line (mark_bytes m ++ rest) ≡ put line (Said (Sign m)) (pieces line rest)
unfolding cut class_of
mark_cut line Open rest h = refl
mark_cut line Close rest h = refl
mark_cut line OpenList rest h = refl
mark_cut line CloseList rest h = refl
mark_cut line Comma rest h = refl
mark_cut line Equals rest h = refl
mark_cut line If rest h = refl
mark_cut line Differs rest h = refl
mark_cut line Stray rest h = absurd h

-- what may stand behind a token
abbrev Ends : Token → List ℕ → Type 0
Ends (Word w) bytes = NoLetter bytes
Ends (Sign m) bytes = Unit {0}

token_cut : (line : ℕ) (t : Token) (rest : List ℕ) → IsWritten t → Ends t rest
    → pieces line (token_bytes t ++ rest) ≡ put line (Said t) (pieces line rest)
token_cut line (Word w) rest h ends = word_cut line w rest h ends
token_cut line (Sign m) rest h ends = mark_cut line m rest h

mark_first : (m : Mark) (bytes : List ℕ) → NoLetter (mark_bytes m ++ bytes)
mark_first Open bytes = refl
mark_first Close bytes = refl
mark_first OpenList bytes = refl
mark_first CloseList bytes = refl
mark_first Comma bytes = refl
mark_first Equals bytes = refl
mark_first If bytes = refl
mark_first Differs bytes = refl
mark_first Stray bytes = refl

mark_begins : (m : Mark) (ts : List Token) (rest : List ℕ)
    → NoLetter (line_of (Sign m ∷ ts) ++ rest)
mark_begins m ts rest =
    subst NoLetter (sym (ap (λ (bytes : List ℕ). bytes ++ rest) (line_more (Sign m) ts)
    ∙ append_assoc (mark_bytes m) (space_behind (Sign m) ts ++ line_of ts) rest))
    (mark_first m ((space_behind (Sign m) ts ++ line_of ts) ++ rest))

word_stops : (w : List ℕ) (ts : List Token) (rest : List ℕ)
    → NoLetter (space_behind (Word w) ts ++ (line_of ts ++ rest))
unfolding line_of
word_stops w [] rest = refl
word_stops w (Word v ∷ ts) rest = refl
word_stops w (Sign Open ∷ ts) rest = mark_begins Open ts rest
word_stops w (Sign Close ∷ ts) rest = mark_begins Close ts rest
word_stops w (Sign OpenList ∷ ts) rest = refl
word_stops w (Sign CloseList ∷ ts) rest = mark_begins CloseList ts rest
word_stops w (Sign Comma ∷ ts) rest = mark_begins Comma ts rest
word_stops w (Sign Equals ∷ ts) rest = mark_begins Equals ts rest
word_stops w (Sign If ∷ ts) rest = refl
word_stops w (Sign Differs ∷ ts) rest = refl
word_stops w (Sign Stray ∷ ts) rest = mark_begins Stray ts rest

stops : (t : Token) (ts : List Token) (rest : List ℕ)
    → Ends t (space_behind t ts ++ (line_of ts ++ rest))
stops (Word w) ts rest = word_stops w ts rest
stops (Sign m) ts rest = tt

gap_cut : (line : ℕ) (b : Bool) (bytes : List ℕ)
    → pieces line ((if b then 32 ∷ [] else []) ++ bytes) ≡ pieces line bytes
unfolding cut class_of
gap_cut line true bytes = refl
gap_cut line false bytes = refl

space_cut : (line : ℕ) (t : Token) (ts : List Token) (bytes : List ℕ)
    → pieces line (space_behind t ts ++ bytes) ≡ pieces line bytes
space_cut line t [] bytes = refl
space_cut line t (u ∷ ts) bytes = gap_cut line (space_between t u) bytes

-- The line of some tokens is cut into them and a dot.
pub line_cut : (line : ℕ) (ts : List Token) (rest : List ℕ) → AllOf IsWritten ts
    → pieces line (line_of ts ++ rest) ≡ said_on line ts (put line Dot (pieces (line + 1) rest))
unfolding line_of cut class_of
line_cut line [] rest h = refl
line_cut line (t ∷ ts) rest h =
    ap (λ (bytes : List ℕ). pieces line (bytes ++ rest)) (line_more t ts)
    ∙ ap (pieces line) (append_assoc (token_bytes t) (space_behind t ts ++ line_of ts) rest
    ∙ ap (λ (bytes : List ℕ). token_bytes t ++ bytes) (append_assoc (space_behind t ts)
    (line_of ts) rest))
    ∙ token_cut line t (space_behind t ts ++ (line_of ts ++ rest)) h.0 (stops t ts rest)
    ∙ ap (put line (Said t)) (space_cut line t ts (line_of ts ++ rest) ∙ line_cut line ts rest h.1)
