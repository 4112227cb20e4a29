-- Digits as numbers.
use Rattle.std.proofs.Common.{◌≡◌, ℕ, ◌<◌, ◌^◌, Bool, true, false, ◌&&◌, List, [], ◌∷◌, length}
use Rattle.std.proofs.Common.{Result, Ok, refl, arith, rules, All}
use Rattle.std.specs.Str.{IsUtf8}
use Rattle.std.specs.List.{list_all}
use Rattle.std.specs.Str.Parse.{ParsesUnsigned}
use Rattle.std.specs.Char.{is_ascii_digit}
use Rattle.std.proofs.lemmas.Str.{IsUtf8-from_ascii}
use Rattle.std.proofs.lemmas.Str.Ascii.{IsAscii-from_all}
use Rattle.std.proofs.lemmas.Str.Parse.{IsNumeralModel, numerals_by_fold, parse_gives}
use Rattle.std.proofs.lemmas.Str.Parse.{digits_value_short}
use Rattle.std.proofs.lemmas.List.Elements.{All-nil, All-cons}
use Rattle.std.proofs.lemmas.Bool.Decides.{nat_tests}
use Rattle.std.proofs.lemmas.Bool.{and_parts}
use Rattle.rule_read.specs.Words.{is_number, number_after, number_of}

pub own : IsNumeralModel (λ ds. list_all is_ascii_digit ds ≡ true) number_of
own = numerals_by_fold _ (search rules) number_after (search rules)

pub parts : (ds : List ℕ) → is_number ds ≡ true → (list_all is_ascii_digit ds ≡ true)
    × (length ds < 17) × (0 < length ds)
parts ds e = grind (arith, nat_tests)

digits_low : (ds : List ℕ) → list_all is_ascii_digit ds ≡ true → All (λ b. b < 128) ds
digits_low [] e = All-nil (λ b. b < 128)
digits_low (d ∷ ds) e =
    let p = and_parts (is_ascii_digit d) (list_all is_ascii_digit ds) e in
    All-cons (λ b. b < 128) d ds (grind (arith, nat_tests, p.0)) (digits_low ds p.1)

pub digits_are_text : (ds : List ℕ) → is_number ds ≡ true → IsUtf8 ds
digits_are_text ds e = IsUtf8-from_ascii ds (IsAscii-from_all ds (digits_low ds (parts ds e).0))

pub number_small : (ds : List ℕ) → is_number ds ≡ true → number_of ds < 10 ^ 16
number_small ds e = let p = parts ds e in digits_value_short own ds 16 p.0 (omega arith)

pub digits_parse : {E : Type 0} (ds : List ℕ) (r : Result ℕ E) → ParsesUnsigned 64 10 ds r
    → is_number ds ≡ true → r ≡ Ok (number_of ds)
digits_parse ds r h e = let p = parts ds e in let small = number_small ds e in
    parse_gives own 64 ds r h p.0 (omega arith) (omega arith)
