-- A comment and a word are passed over whole.
use Rattle.std.proofs.Common.{◌≡◌, ℕ, suc, ◌+◌, ◌≤◌, ◌<◌, Bool, true, false, not, nat_eq, List, []}
use Rattle.std.proofs.Common.{◌∷◌, length, take, drop, refl, sym, ap, ◌∙◌, arith}
use Rattle.std.specs.List.{prefix_len}
use Rattle.std.proofs.lemmas.Bool.{eqb-true}
use Rattle.std.proofs.lemmas.List.Sums.{prefix_len-le-length}
use Rattle.std.proofs.lemmas.Bool.Decides.{nat_tests}
use Rattle.rule_read.specs.declared.token.Class.{Class}
use Rattle.rule_read.specs.declared.token.Class.TheVariants as class
use Rattle.rule_read.specs.Bytes.{class_of}
use Rattle.rt_base.specs.Kinds.{is_letter}
use Rattle.rule_read.specs.Tokens.{cut, Comment, Text, pieces, Word, Said, put}

pub one_more : (n : ℕ) → 1 + n ≡ suc n
one_more n = omega arith

abbrev of_word : Class → Bool
of_word class.Letter = true
of_word _ = false

-- the bytes of words are those of this class
letter_class : (b : ℕ) → of_word (class_of b) ≡ is_letter b
unfolding class_of
letter_class b = grind (arith, nat_tests)

pub is_of_word : (b : ℕ) → class_of b ≡ class.Letter → is_letter b ≡ true
is_of_word b e = sym (letter_class b) ∙ ap of_word e

is_no_word : (b : ℕ) (k : Class) → class_of b ≡ k → of_word k ≡ false → is_letter b ≡ false
is_no_word b k e h = sym (letter_class b) ∙ ap of_word e ∙ h

pub word_starts : (b : ℕ) (bs : List ℕ) → class_of b ≡ class.Letter
    → 0 < prefix_len is_letter (b ∷ bs)
word_starts b bs e = let h = is_of_word b e in rw h (omega arith)

comment_step : (line b : ℕ) (bs : List ℕ) (same : Bool) → nat_eq b 10 ≡ same
    → cut line Comment bs ≡ pieces line (drop (prefix_len (λ x. not (nat_eq x 10)) bs) bs)
    → cut line Comment (b ∷ bs) ≡ pieces line (drop (prefix_len (λ x. not (nat_eq x 10)) (b ∷ bs))
    (b ∷ bs))
unfolding cut class_of
comment_step line b bs true e rest = let at : b ≡ 10 = eqb-true b 10 e in rw at refl
comment_step line b bs false e rest = rw (e, one_more) rest

pub comment_passes : (line : ℕ) (bs : List ℕ) → cut line Comment bs
    ≡ pieces line (drop (prefix_len (λ x. not (nat_eq x 10)) bs) bs)
unfolding cut
comment_passes line [] = refl
comment_passes line (b ∷ bs) = comment_step line b bs (nat_eq b 10) refl (comment_passes line bs)

word_step : (line b : ℕ) (bs : List ℕ) (k : Class) → class_of b ≡ k → cut line (Text true) bs
    ≡ pieces line (drop (prefix_len is_letter bs) bs)
    → cut line (Text true) (b ∷ bs) ≡ pieces line (drop (prefix_len is_letter (b ∷ bs)) (b ∷ bs))
unfolding cut
word_step line b bs class.Letter e rest = let h = is_of_word b e in rw (e, h, one_more) rest
word_step line b bs class.Line e rest = let h = is_no_word b class.Line e refl in rw (h, e) refl
word_step line b bs class.Gap e rest = let h = is_no_word b class.Gap e refl in rw (h, e) refl
word_step line b bs class.Percent e rest = let h = is_no_word b class.Percent e refl in
    rw (h, e) refl
word_step line b bs class.Open e rest = let h = is_no_word b class.Open e refl in rw (h, e) refl
word_step line b bs class.Close e rest = let h = is_no_word b class.Close e refl in rw (h, e) refl
word_step line b bs class.OpenList e rest = let h = is_no_word b class.OpenList e refl in
    rw (h, e) refl
word_step line b bs class.CloseList e rest = let h = is_no_word b class.CloseList e refl in
    rw (h, e) refl
word_step line b bs class.Comma e rest = let h = is_no_word b class.Comma e refl in rw (h, e) refl
word_step line b bs class.Dot e rest = let h = is_no_word b class.Dot e refl in rw (h, e) refl
word_step line b bs class.Equals e rest = let h = is_no_word b class.Equals e refl in rw (h, e) refl
word_step line b bs class.Colon e rest = let h = is_no_word b class.Colon e refl in rw (h, e) refl
word_step line b bs class.Dash e rest = let h = is_no_word b class.Dash e refl in rw (h, e) refl
word_step line b bs class.Backslash e rest = let h = is_no_word b class.Backslash e refl in
    rw (h, e) refl
word_step line b bs class.Other e rest = let h = is_no_word b class.Other e refl in rw (h, e) refl

pub word_passes : (line : ℕ) (bs : List ℕ) → cut line (Text true) bs
    ≡ pieces line (drop (prefix_len is_letter bs) bs)
unfolding cut
word_passes line [] = refl
word_passes line (b ∷ bs) = word_step line b bs (class_of b) refl (word_passes line bs)

pub word_is_said : (line b : ℕ) (bs : List ℕ) → class_of b ≡ class.Letter
    → pieces line (b ∷ bs) ≡ put line (Said (Word (take (prefix_len is_letter (b ∷ bs)) (b ∷ bs))))
    (pieces line (drop (prefix_len is_letter (b ∷ bs)) (b ∷ bs)))
unfolding cut
word_is_said line b bs e = let h = is_of_word b e in rw (e, h, one_more, word_passes line bs) refl

pub letters_within : (bs : List ℕ) → prefix_len is_letter bs ≤ length bs
letters_within bs = prefix_len-le-length is_letter bs

pub in_comment_within : (bs : List ℕ) → prefix_len (λ x. not (nat_eq x 10)) bs ≤ length bs
in_comment_within bs = prefix_len-le-length (λ x. not (nat_eq x 10)) bs
