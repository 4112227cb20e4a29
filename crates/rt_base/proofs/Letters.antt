-- Letters are text.
use Rattle.std.proofs.Common.{◌≡◌, ℕ, ◌<◌, true, List, arith, All}
use Rattle.std.specs.List.{list_all}
use Rattle.std.specs.Str.{IsUtf8}
use Rattle.std.proofs.lemmas.Str.{IsUtf8-from_ascii}
use Rattle.std.proofs.lemmas.Bool.Decides.{nat_tests}
use Rattle.std.proofs.lemmas.Str.Ascii.{IsAscii-from_all}
use Rattle.std.proofs.lemmas.List.Sums.{AllPass-from_list_all}
use Rattle.std.proofs.lemmas.List.Elements.{All-weaker}
use Rattle.rt_base.specs.Kinds.{is_letter}

pub letter_low : (b : ℕ) → is_letter b ≡ true → b < 128
letter_low b h = grind (arith, nat_tests)

all_low : (bs : List ℕ) → list_all is_letter bs ≡ true → All (λ b. b < 128) bs
all_low bs h = All-weaker (λ b. is_letter b ≡ true) (λ b. b < 128) letter_low bs
    (AllPass-from_list_all is_letter bs h)

pub letters_are_text : (bs : List ℕ) → list_all is_letter bs ≡ true → IsUtf8 bs
letters_are_text bs h = IsUtf8-from_ascii bs (IsAscii-from_all bs (all_low bs h))
