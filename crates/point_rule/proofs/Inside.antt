-- The points of a list that lie in a window are the points of the window that the list has.
use Rattle.std.proofs.Common.{◌≡◌, ℕ, zero, suc, ◌+◌, ◌-◌, ◌<◌, ◌≤◌, Bool, true, false, cond, ◌&&◌}
use Rattle.std.proofs.Common.{leb, ltb, List, [], ◌∷◌, filter, refl, sym, ◌∙◌, ap, arith}
use Rattle.std.specs.List.{range_with_len}
use Rattle.std.proofs.lemmas.Bool.Decides.{nat_tests}
use Rattle.span_algebra.specs.Normal.{IsRising, has}
use Rattle.ground_types.specs.Rows.{points}
use Rattle.derived_event.proofs.Rising.{contains_filter, points_by}

both : {X : Type 0} (one two : X → Bool) (x : X) (xs : List X) (a b : Bool) → one x ≡ a → two x ≡ b
    →
    filter two (filter one xs) ≡ filter (λ y. one y && two y) xs
    → filter two (cond a (x ∷ filter one xs) (filter one xs))
    ≡ cond (a && b) (x ∷ filter (λ y. one y && two y) xs) (filter (λ y. one y && two y) xs)
both one two x xs true true p q go = rw q (ap (λ l. x ∷ l) go)
both one two x xs true false p q go = rw q go
both one two x xs false b p q go = go

-- a filter of a filter keeps what passes both
pub filter_twice : {X : Type 0} (one two : X → Bool) (xs : List X) → filter two (filter one xs)
    ≡ filter (λ x. one x && two x) xs
filter_twice one two [] = refl
filter_twice one two (x ∷ xs) = both one two x xs (one x) (two x) refl refl
    (filter_twice one two xs)

same_kept : {X : Type 0} (x : X) (xs ys : List X) (a b : Bool) → a ≡ b → xs ≡ ys
    → cond a (x ∷ xs) xs ≡ cond b (x ∷ ys) ys
same_kept x xs ys true true is rest = ap (λ l. x ∷ l) rest
same_kept x xs ys true false is rest = cc
same_kept x xs ys false true is rest = cc
same_kept x xs ys false false is rest = rest

-- tests that say the same leave the same
pub filter_same : {X : Type 0} (one two : X → Bool) (xs : List X) → ((x : X) → one x ≡ two x)
    → filter one xs ≡ filter two xs
filter_same one two [] same = refl
filter_same one two (x ∷ xs) same = same_kept x (filter one xs) (filter two xs) (one x) (two x)
    (same x) (filter_same one two xs same)

-- points after w and up to q lie in the window
all_in : (w q a n : ℕ) → w < a → n ≤ q + 1 - a → filter (λ t. ltb w t && leb t q)
    (range_with_len a n) ≡ range_with_len a n
all_in w q a zero above below = refl
all_in w q a (suc n) above below =
    let here : (ltb w a && leb a q) ≡ true = grind (arith, nat_tests) in
    rw here (ap (λ (l : List ℕ). a ∷ l) (all_in w q (a + 1) n (omega arith) (omega arith)))

and_same : (b : Bool) → (b && b) ≡ b
and_same true = refl
and_same false = refl

pub inside_are : (list : List ℕ) (w q : ℕ) → IsRising (filter (λ t. ltb w t && leb t q) list) →
    filter (λ t. ltb w t && leb t q) list ≡ points (has list) w q
inside_are list w q rising =
    let f : ℕ → Bool = λ t. ltb w t && leb t q in
    let range : List ℕ = range_with_len (w + 1) (q - w) in
    sym (filter_twice f f list ∙ filter_same (λ t. f t && f t) f list (λ t. and_same (f t)))
    ∙ points_by (has (filter f list)) w q (filter f list) rising (λ t. refl)
    ∙ filter_same (has (filter f list)) (λ t. f t && has list t) range (contains_filter f list)
    ∙ sym (filter_twice f (has list) range)
    ∙ ap (filter (has list)) (all_in w q (w + 1) (q - w) (omega arith) (omega arith))

-- what is true nowhere has no points
none_kept : (test : ℕ → Bool) (xs : List ℕ) → ((t : ℕ) → test t ≡ false) → filter test xs ≡ []
none_kept test [] none = refl
none_kept test (x ∷ xs) none = rw (none x) (none_kept test xs none)

pub points_nowhere : (test : ℕ → Bool) (w q : ℕ) → ((t : ℕ) → test t ≡ false) → points test w q ≡ []
points_nowhere test w q none = none_kept test (range_with_len (w + 1) (q - w)) none
