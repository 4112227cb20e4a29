-- What holds of each item of lists.
use Rattle.std.proofs.Common.{◌≡◌, Bool, true, cond, ◌&&◌, ◌||◌, List, [], ◌∷◌, ◌++◌, filter}
use Rattle.std.proofs.Common.{refl, sym, ◌∙◌, ap₂}
use Rattle.std.specs.List.{list_all, list_any, AllByRecursion}
use Rattle.std.proofs.lemmas.List.Folds.{list_all-append}
use Rattle.std.proofs.lemmas.Bool.{and_parts}

-- what passes for two lists together passes for each, and the other way round
pub all_left : {X : Type 0} (test : X → Bool) (xs ys : List X) → list_all test (xs ++ ys) ≡ true
    → list_all test xs ≡ true
all_left test xs ys all = (and_parts (list_all test xs) (list_all test ys)
    (sym (list_all-append test xs ys) ∙ all)).0

pub all_right : {X : Type 0} (test : X → Bool) (xs ys : List X) → list_all test (xs ++ ys) ≡ true
    → list_all test ys ≡ true
all_right test xs ys all = (and_parts (list_all test xs) (list_all test ys)
    (sym (list_all-append test xs ys) ∙ all)).1

pub all_both : {X : Type 0} (test : X → Bool) (xs ys : List X) → list_all test xs ≡ true
    → list_all test ys ≡ true → list_all test (xs ++ ys) ≡ true
all_both test xs ys first second =
    list_all-append test xs ys ∙ ap₂ (λ (a b : Bool). a && b) first second

-- tests that say the same of each item keep the same items, and find one alike
pub filter_alike : {X : Type 0} (one two : X → Bool) (xs : List X)
    → AllByRecursion (λ x. one x ≡ two x) xs → filter one xs ≡ filter two xs
filter_alike one two [] alike = refl
filter_alike {X} one two (x ∷ xs) alike =
    ap₂ (λ (b : Bool) (l : List X). cond b (x ∷ l) l) alike.0 (filter_alike one two xs alike.1)

pub any_alike : {X : Type 0} (one two : X → Bool) (xs : List X)
    → AllByRecursion (λ x. one x ≡ two x) xs → list_any one xs ≡ list_any two xs
any_alike one two [] alike = refl
any_alike one two (x ∷ xs) alike =
    ap₂ (λ (a b : Bool). a || b) alike.0 (any_alike one two xs alike.1)
