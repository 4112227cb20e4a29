-- Digits, as std reads a number.
use Rattle.std.proofs.Common.{◌≡◌, ◌∙◌, ◌<◌, ◌≤◌, ℕ, true, false, refl, sym, [], ◌∷◌, arith}
use Rattle.std.proofs.Common.{◌^◌, Some, None, ap, subst, inl, inr}
use Rattle.std.specs.Prelude.{nat_lt}
use Rattle.std.specs.List.{list_all}
use Rattle.std.specs.Char.{is_ascii_digit, digit_value}
use Rattle.std.specs.Str.Parse.{AllDigits, IsNumeral, without_leading_plus, digits_value}
use Rattle.std.proofs.lemmas.Bool.{and_parts, ne_eqb, cases_Bool}
use Rattle.std.proofs.lemmas.Bool.Decides.{nat_tests}
use Rattle.command_words.specs.Words.{Text}
use Rattle.command_words.specs.Matching.{Digits, value_of}

digit_bounds : (c : ℕ) → is_ascii_digit c ≡ true → (48 ≤ c) × (c ≤ 57)
digit_bounds c is = grind (arith, nat_tests)

digit_low : (c : ℕ) → is_ascii_digit c ≡ true → digit_value c < 10
digit_low c is =
    let bounds = digit_bounds c is in
    let low : nat_lt c 48 ≡ false = grind (arith, nat_tests) in
    let high : nat_lt c 58 ≡ true = grind (arith, nat_tests) in
    rw (low, high) (omega arith)

all_digits : (text : Text) → list_all is_ascii_digit text ≡ true → AllDigits 10 text
all_digits [] all = tt
all_digits (c ∷ rest) all =
    let parts = and_parts (is_ascii_digit c) (list_all is_ascii_digit rest) all in
    (digit_low c parts.0, all_digits rest parts.1)

pub no_plus : (text : Text) → Digits text → without_leading_plus text ≡ text
no_plus [] digits = refl
no_plus (c ∷ rest) digits =
    let parts = and_parts (is_ascii_digit c) (list_all is_ascii_digit rest) digits.all in
    let bounds = digit_bounds c parts.0 in
    rw (ne_eqb c 43 (λ e. absurd (omega arith))) refl

pub numeral : (text : Text) → Digits text → IsNumeral 10 text
numeral text digits = (grind (arith, nat_tests), all_digits text digits.all)

-- what parsing gives
pub in_bits : (text : Text) (n : ℕ) → Digits text
    → (IsNumeral 10 (without_leading_plus text)
    × (digits_value 10 (without_leading_plus text) < 2 ^ 64))
    × (n ≡ digits_value 10 (without_leading_plus text))
    → Some n ≡ value_of text
in_bits text n digits parsed =
    let low : digits_value 10 text < 2 ^ 64 =
    subst (λ t. digits_value 10 t < 2 ^ 64) (no_plus text digits) parsed.0.1 in
    let test : nat_lt (digits_value 10 text) (2 ^ 64) ≡ true = grind (arith, nat_tests) in
    rw test (ap Some (parsed.1 ∙ ap (digits_value 10) (no_plus text digits)))

pub out_of_bits : (text : Text) → Digits text
    → (IsNumeral 10 (without_leading_plus text)
    × (digits_value 10 (without_leading_plus text) < 2 ^ 64) → ⊥)
    → None ≡ value_of text
out_of_bits text digits fails = elim (cases_Bool (nat_lt (digits_value 10 text) (2 ^ 64))) [
  | inl low ↦
      let below : digits_value 10 text < 2 ^ 64 = grind (arith, nat_tests) in
      absurd (fails (subst (λ t. IsNumeral 10 t × (digits_value 10 t < 2 ^ 64))
      (sym (no_plus text digits)) (numeral text digits, below)))
  | inr high ↦ rw high refl
]
