-- The digits of a number: 1 to 16 of them, which write it.
use Rattle.std.proofs.Common.{◌≡◌, ℕ, ◌<◌, ◌≤◌, ◌^◌, true, List, [], ◌∷◌, length, decimal, refl}
use Rattle.std.proofs.Common.{arith, rules}
use Rattle.std.specs.List.{list_all}
use Rattle.std.specs.Char.{is_ascii_digit}
use Rattle.std.proofs.lemmas.Str.Parse.{IsNumeralModel, numerals_by_fold}
use Rattle.std.proofs.lemmas.Fmt.{digits_decimal, digits_value-decimal, length-decimal-le}
use Rattle.std.proofs.lemmas.Fmt.{decimal_nonempty}
use Rattle.std.proofs.lemmas.Bool.Decides.{nat_tests}
use Rattle.rt_base.specs.Kinds.{is_letter}
use Rattle.std.proofs.lemmas.Bool.{and_parts}
use Rattle.rule_read.proofs.Numbers.{own}
use Rattle.rule_read.specs.declared.keyword.Keyword.{Keyword}
use Rattle.rule_read.specs.Tokens.{Word}
use Rattle.rule_read.specs.Words.{is_number, number_after, number_of}
use Rattle.rule_read.specs.FormTokens.{number_tokens}
use Rattle.rule_read.specs.Grammar.{SpellsNumber}
use Rattle.rule_read.proofs.Cuts.{IsWritten}

letters : (ds : List ℕ) → list_all is_ascii_digit ds ≡ true → list_all is_letter ds ≡ true
letters [] h = refl
letters (d ∷ ds) h =
    let p = and_parts (is_ascii_digit d) (list_all is_ascii_digit ds) h in
    let first : is_letter d ≡ true = grind (arith, nat_tests, p.0) in rw first (letters ds p.1)

below : (n : ℕ) → n < 10 ^ 16 → n < 2 ^ 64
below n h = omega arith

pub digits_are_letters : (n : ℕ) → n < 10 ^ 16 → IsWritten (Word (decimal n))
digits_are_letters n h = (
  letters (decimal n) (digits_decimal own n (below n h)),
  decimal_nonempty
      n (below n h),
)

digits_are_number : (n : ℕ) → n < 10 ^ 16 → is_number (decimal n) ≡ true
digits_are_number n h =
    let all : list_all is_ascii_digit (decimal n) ≡ true = digits_decimal own n (below n h) in
    let some : 0 < length (decimal n) = decimal_nonempty n (below n h) in
    let few : length (decimal n) ≤ 16 = length-decimal-le 16 n (omega arith) h (below n h) in
    grind (arith, nat_tests, all, some, few)

pub number_spelled : (k : Keyword) (n : ℕ) → n < 10 ^ 16
    → SpellsNumber k n (number_tokens k (decimal n))
number_spelled k n h = (
  decimal n,
  digits_are_number n h,
  digits_value-decimal own n (below n h),
  refl,
)
