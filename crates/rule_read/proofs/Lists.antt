-- A list that is read member by member.
use Rattle.std.proofs.Common.{◌≡◌, ℕ, suc, ◌+◌, ◌-◌, ◌<◌, true, false, List, [], ◌∷◌, ◌++◌, Option}
use Rattle.std.proofs.Common.{Some, None, refl, sym, ap, ◌∙◌, arith, append_assoc}
use Rattle.rule_read.specs.declared.token.Mark.TheVariants.{Comma}
use Rattle.rule_read.specs.Tokens.{Token}
use Rattle.rule_read.specs.Reading.{Part, bind, list_at, with_front, has, tail}

regroup : {A : Type 0} (front : List A) (x : A) (read : Option (List A × List Token))
    → with_front front (bind read (λ xs. Some (x ∷ xs.0, xs.1))) ≡ with_front (front ++ x ∷ []) read
unfolding bind
regroup front x None = refl
regroup front x (Some xs) = ap (λ ys. Some (ys, xs.1)) (sym (append_assoc front (x ∷ []) xs.0))

pub goes_on : {A : Type 0} (at : Part A) (front : List A) (count i : ℕ) (ts rest : List Token)
    (x : A) (total : Option (List A × List Token))
    → i < count → at ts ≡ Some (x, rest) → has Comma rest ≡ true
    → with_front front (list_at at (count - i) ts) ≡ total
    → with_front (front ++ x ∷ []) (list_at at (count - (i + 1)) (tail rest)) ≡ total
unfolding bind
goes_on at front count i ts rest x total lt h comma so_far =
    let k : count - i ≡ suc (count - (i + 1)) = omega arith in
    let one : with_front front (list_at at (count - i) ts) ≡ with_front (front ++ x ∷ [])
    (list_at at (count - (i + 1)) (tail rest)) = rw
    (k, h, comma) (regroup front x (list_at at (count - (i + 1)) (tail rest))) in
    sym one ∙ so_far

pub last_one : {A : Type 0} (at : Part A) (front : List A) (count i : ℕ) (ts rest : List Token)
    (x : A) (total : Option (List A × List Token))
    → i < count → at ts ≡ Some (x, rest) → has Comma rest ≡ false
    → with_front front (list_at at (count - i) ts) ≡ total → total ≡ Some (front ++ x ∷ [], rest)
unfolding bind
last_one at front count i ts rest x total lt h comma so_far =
    let k : count - i ≡ suc (count - (i + 1)) = omega arith in
    let one : with_front front (list_at at (count - i) ts) ≡ Some (front ++ x ∷ [], rest) =
    rw (k, h, comma) refl in
    sym so_far ∙ one
