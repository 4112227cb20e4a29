-- Items of a list that are mapped one after the other.
use Rattle.std.proofs.Common.{◌≡◌, ℕ, zero, suc, ◌+◌, ◌<◌, List, [], ◌∷◌, ◌++◌, map, length, take}
use Rattle.std.proofs.Common.{drop, set, get_or, ap, subst, sym, arith}

step : {X : Type 0} (f : X → X) (xs : List X) (i : ℕ) (y d : X) → i < length xs
    → y ≡ f (get_or (map f (take i xs) ++ drop i xs) i d) → set (map f (take i xs) ++ drop i xs) i y
    ≡ map f (take (suc i) xs) ++ drop (suc i) xs
step f [] i y d lt is = absurd (omega (arith, lt))
step {X} f (x ∷ xs) zero y d lt is = ap (λ (z : X). z ∷ xs) is
step {X} f (x ∷ xs) (suc i) y d lt is =
    ap (λ (l : List X). f x ∷ l) (step f xs i y d (omega (arith, lt)) is)

next_is : (i : ℕ) → suc i ≡ i + 1
next_is i = omega arith

pub mapped_more : {X : Type 0} (f : X → X) (xs ys : List X) (i : ℕ) (y d : X) → i < length xs
    → ys ≡ map f (take i xs) ++ drop i xs → y ≡ f (get_or ys i d)
    → set ys i y ≡ map f (take (i + 1) xs) ++ drop (i + 1) xs
mapped_more {X} f xs ys i y d lt was is =
    subst (λ (n : ℕ). set ys i y ≡ map f (take n xs) ++ drop n xs) (next_is i)
    (subst (λ (l : List X). y ≡ f (get_or l i d) → set l i y
    ≡ map f (take (suc i) xs) ++ drop (suc i) xs) (sym was)
    (step f xs i y d lt) is)
