-- The place of a list of numbers among all lists of numbers below sizes, number by number.
use Rattle.std.proofs.Common.{◌≡◌, ◌≢◌, ℕ, zero, suc, ◌+◌, ◌*◌, nat_lt, nat_eq, Bool, true, false}
use Rattle.std.proofs.Common.{not, cond, ◌&&◌, List, [], ◌∷◌, ◌++◌, length, map, flat_map, zip}
use Rattle.std.proofs.Common.{fold, position, Option, option_map, Some, None, refl, sym, ap, ap₂}
use Rattle.std.proofs.Common.{◌∙◌, arith, if◌then◌else◌}
use Rattle.std.proofs.lemmas.Bool.Decides.{nat_tests}
use Rattle.std.proofs.lemmas.List.{length-map}
use Rattle.std.specs.List.{position_or_len, range_with_len}
use Rattle.std.specs.Str.{bytes_eq}
use Rattle.ground_types.specs.Sound.{argument_lists}
use Rattle.ground_names.specs.Counted.{ranked}
use Rattle.ground_names.proofs.Ordered.{product, length_lists}

-- ---- the first place at which a test passes, by recursion

abbrev one_more : Option ℕ → Option ℕ
one_more o = option_map (λ k. suc k) o

abbrev first_at : {X : Type 0} → (X → Bool) → List X → Option ℕ
first_at p [] = None
first_at p (x ∷ xs) = cond (p x) (Some 0) (one_more (first_at p xs))

abbrev if_below : ℕ → ℕ → Option ℕ
if_below n m = cond (nat_lt n m) (Some n) None

below_by : (b : Bool) (n : ℕ) → cond b (Some (suc n)) None ≡ one_more (cond b (Some n) None)
below_by true n = refl
below_by false n = refl

below_more : (n m : ℕ) → if_below (suc n) (suc m) ≡ one_more (if_below n m)
below_more n m =
    let same : nat_lt (suc n) (suc m) ≡ nat_lt n m = grind (arith, nat_tests) in
    ap (λ b. cond b (Some (suc n)) None) same ∙ below_by (nat_lt n m) n

position_by : (b : Bool) (n m : ℕ) → if_below (cond (not b) (1 + n) 0) (suc m) ≡ cond b (Some 0)
    (one_more (if_below n m))
position_by true n m =
    let first : nat_lt 0 (suc m) ≡ true = grind (arith, nat_tests) in
    ap (λ b. cond b (Some 0) None) first
position_by false n m =
    let next : 1 + n ≡ suc n = omega arith in
    ap (λ k. if_below k (suc m)) next ∙ below_more n m

pub position_is_first : {X : Type 0} (p : X → Bool) (xs : List X) → position p xs ≡ first_at p xs
position_is_first p [] = refl
position_is_first p (x ∷ xs) =
    position_by (p x) (position_or_len p xs) (length xs)
    ∙ ap (λ o. cond (p x) (Some 0) (one_more o)) (position_is_first p xs)

-- ---- one list behind another

abbrev first_or : Option ℕ → Option ℕ → Option ℕ
first_or (Some k) o = Some k
first_or None o = o

none_before : (o : Option ℕ) → o ≡ option_map (λ k. 0 + k) o
none_before None = refl
none_before (Some k) = let same : k ≡ 0 + k = omega arith in ap Some same

move_on : (o found : Option ℕ) (n : ℕ) → one_more (first_or found (option_map (λ k. n + k) o))
    ≡ first_or (one_more found) (option_map (λ k. suc n + k) o)
move_on o (Some k) n = refl
move_on None None n = refl
move_on (Some k) None n = let same : suc (n + k) ≡ suc n + k = omega arith in ap Some same

append_by : (b : Bool) (rest found o : Option ℕ) (n : ℕ)
    → rest ≡ first_or found (option_map (λ k. n + k) o)
    → cond b (Some 0) (one_more rest) ≡ first_or (cond b (Some 0) (one_more found))
    (option_map (λ k. suc n + k) o)
append_by true rest found o n e = refl
append_by false rest found o n e = ap one_more e ∙ move_on o found n

first_append : {X : Type 0} (p : X → Bool) (xs ys : List X) → first_at p (xs ++ ys)
    ≡ first_or (first_at p xs) (option_map (λ k. length xs + k) (first_at p ys))
first_append p [] ys = none_before (first_at p ys)
first_append p (x ∷ xs) ys = append_by (p x) _ (first_at p xs) (first_at p ys) (length xs)
    (first_append p xs ys)

-- ---- lists that begin with each number of a list

abbrev only_if : Bool → Option ℕ → Option ℕ
only_if b o = cond b o None

none_by : (b : Bool) → only_if b None ≡ None
none_by true = refl
none_by false = refl

never : {X : Type 0} (xs : List X) → first_at (λ x. false) xs ≡ None
never [] = refl
never (x ∷ xs) = ap one_more (never xs)

first_map : {X Y : Type 0} (p : Y → Bool) (f : X → Y) (xs : List X) → first_at p (map f xs)
    ≡ first_at (λ x. p (f x)) xs
first_map p f [] = refl
first_map p f (x ∷ xs) = ap (λ o. cond (p (f x)) (Some 0) (one_more o)) (first_map p f xs)

module _ (tails : List (List ℕ)) where
  abbrev block : ℕ → List (List ℕ)
  block entity = map (λ rest. entity ∷ rest) tails

  -- the empty list is none of them
  no_empty : (es : List ℕ) → first_at (bytes_eq []) (flat_map block es) ≡ None
  no_empty [] = refl
  no_empty (e ∷ es) =
      first_append (bytes_eq []) (block e) (flat_map block es)
      ∙ ap (λ o. first_or o (option_map (λ k. length (block e) + k)
      (first_at (bytes_eq []) (flat_map block es)))) (first_map (bytes_eq []) (λ rest. e ∷ rest)
      tails ∙ never tails)
      ∙ ap (option_map (λ k. length (block e) + k)) (no_empty es)

  module _ (a : ℕ) (bs : List ℕ) where
    both_by : (b : Bool) → first_at (λ rest. b && bytes_eq bs rest) tails
        ≡ cond b (first_at (bytes_eq bs) tails) None
    both_by true = refl
    both_by false = never tails

    in_block : (e : ℕ) → first_at (bytes_eq (a ∷ bs)) (block e) ≡ cond (nat_eq a e)
        (first_at (bytes_eq bs) tails) None
    in_block e = first_map (bytes_eq (a ∷ bs)) (λ rest. e ∷ rest) tails ∙ both_by (nat_eq a e)

    in_no_block : (es : List ℕ) → first_at (bytes_eq bs) tails ≡ None
        → first_at (bytes_eq (a ∷ bs)) (flat_map block es) ≡ None
    in_no_block [] none = refl
    in_no_block (e ∷ es) none =
        first_append (bytes_eq (a ∷ bs)) (block e) (flat_map block es)
        ∙ ap (λ o. first_or o (option_map (λ k. length (block e) + k) (first_at (bytes_eq (a ∷ bs))
        (flat_map block es)))) (in_block e ∙ ap (λ o. cond (nat_eq a e) o None) none
        ∙ none_by (nat_eq a e))
        ∙ ap (option_map (λ k. length (block e) + k)) (in_no_block es none)

    here_or_later : (b : Bool) (k n : ℕ) (o : Option ℕ) → n ≡ length tails
        → first_or (cond b (Some k) None)
        (option_map (λ i. n + i) (option_map (λ j. j * length tails + k) o))
        ≡ option_map (λ j. j * length tails + k) (cond b (Some 0) (one_more o))
    here_or_later true k n o e = let same : k ≡ 0 * length tails + k = grind arith in ap Some same
    here_or_later false k n None e = refl
    here_or_later false k n (Some j) e =
        let same : n + (j * length tails + k) ≡ suc j * length tails + k = grind (arith, e) in
        ap Some same

    in_blocks : (es : List ℕ) (k : ℕ) → first_at (bytes_eq bs) tails ≡ Some k
        → first_at (bytes_eq (a ∷ bs)) (flat_map block es) ≡ option_map (λ j. j * length tails + k)
        (first_at (nat_eq a) es)
    in_blocks [] k some = refl
    in_blocks (e ∷ es) k some =
        first_append (bytes_eq (a ∷ bs)) (block e) (flat_map block es)
        ∙ ap₂ first_or (in_block e ∙ ap (λ o. cond (nat_eq a e) o None) some)
        (ap (option_map (λ i. length (block e) + i)) (in_blocks es k some))
        ∙ here_or_later (nat_eq a e) k (length (block e)) (first_at (nat_eq a) es)
        (length-map tails (λ rest. e ∷ rest))

-- ---- numbers of a range

range_at : (s n q : ℕ) → first_at (nat_eq (s + q)) (range_with_len s n) ≡ if_below q n
range_at s zero q =
    let none : nat_lt q 0 ≡ false = grind (arith, nat_tests) in
    sym (ap (λ b. cond b (Some q) None) none)
range_at s (suc n) zero =
    let here : nat_eq (s + 0) s ≡ true = grind (arith, nat_tests) in
    let first : nat_lt 0 (suc n) ≡ true = grind (arith, nat_tests) in
    ap (λ b. cond b (Some 0) (one_more (first_at (nat_eq (s + 0)) (range_with_len (s + 1) n))))
    here ∙ sym (ap (λ b. cond b (Some 0) None) first)
range_at s (suc n) (suc q) =
    let later : nat_eq (s + suc q) s ≡ false = grind (arith, nat_tests) in
    let same : s + suc q ≡ s + 1 + q = omega arith in
    ap (λ b. cond b (Some 0) (one_more (first_at (nat_eq (s + suc q)) (range_with_len (s + 1) n))))
    later
    ∙ ap (λ m. one_more (first_at (nat_eq m) (range_with_len (s + 1) n))) same
    ∙ ap one_more (range_at (s + 1) n q)
    ∙ sym (below_more q n)

number_at_place : (n a : ℕ) → first_at (nat_eq a) (range_with_len 0 n) ≡ if_below a n
number_at_place n a = let same : a ≡ 0 + a = omega arith in
    ap (λ m. first_at (nat_eq m) (range_with_len 0 n)) same ∙ range_at 0 n a

-- ---- ranks

pub no_rank : (xs : List (ℕ × ℕ)) → fold ranked None xs ≡ None
no_rank [] = refl
no_rank (x ∷ xs) = no_rank xs

module _ (size : ℕ) (sizes : List ℕ) (a : ℕ) (bs : List ℕ) (p : ℕ) where
  abbrev tails : List (List ℕ)
  tails = argument_lists sizes

  abbrev all : Option ℕ
  all = first_at (bytes_eq (a ∷ bs)) (argument_lists (size ∷ sizes))

  rank_by : (b : Bool) (o : Option ℕ) → nat_lt a size ≡ b → first_at (bytes_eq bs) tails ≡ o
      → ((q : ℕ) → fold ranked (Some q) (zip sizes bs) ≡ option_map (λ k. q * product sizes + k) o)
      → fold ranked (ranked (Some p) (size, a)) (zip sizes bs)
      ≡ option_map (λ k. p * (size * product sizes) + k) all
  rank_by true (Some k) lt found rest =
      let here : all ≡ Some (a * length tails + k) =
      in_blocks tails a bs (range_with_len 0 size) k found
      ∙ ap (option_map (λ j. j * length tails + k)) (number_at_place size a
      ∙ ap (λ b. cond b (Some a) None) lt) in
      let count : length tails ≡ product sizes = length_lists sizes in
      let same : (p * size + a) * product sizes + k ≡ p * (size * product sizes) +
      (a * length tails + k) = grind (arith, count) in
      ap (λ b. fold ranked (if b then Some (p * size + a) else None) (zip sizes bs)) lt
      ∙ rest (p * size + a)
      ∙ ap Some same
      ∙ sym (ap (option_map (λ k. p * (size * product sizes) + k)) here)
  rank_by true None lt found rest =
      ap (λ b. fold ranked (if b then Some (p * size + a) else None) (zip sizes bs)) lt
      ∙ rest (p * size + a)
      ∙ sym (ap (option_map (λ k. p * (size * product sizes) + k))
      (in_no_block tails a bs (range_with_len 0 size) found))
  rank_by false (Some k) lt found rest =
      let out : all ≡ None =
      in_blocks tails a bs (range_with_len 0 size) k found
      ∙ ap (option_map (λ j. j * length tails + k)) (number_at_place size a
      ∙ ap (λ b. cond b (Some a) None) lt) in
      ap (λ b. fold ranked (if b then Some (p * size + a) else None) (zip sizes bs)) lt
      ∙ no_rank (zip sizes bs)
      ∙ sym (ap (option_map (λ k. p * (size * product sizes) + k)) out)
  rank_by false None lt found rest =
      ap (λ b. fold ranked (if b then Some (p * size + a) else None) (zip sizes bs)) lt
      ∙ no_rank (zip sizes bs)
      ∙ sym (ap (option_map (λ k. p * (size * product sizes) + k))
      (in_no_block tails a bs (range_with_len 0 size) found))

rank_from : (sizes args : List ℕ) (p : ℕ) → length args ≡ length sizes
    → fold ranked (Some p) (zip sizes args) ≡ option_map (λ k. p * product sizes + k)
    (first_at (bytes_eq args) (argument_lists sizes))
rank_from [] [] p e = let same : p ≡ p * 1 + 0 = grind arith in ap Some same
rank_from [] (a ∷ bs) p e = absurd (omega (arith, e))
rank_from (s ∷ ss) [] p e = absurd (omega (arith, e))
rank_from (s ∷ ss) (a ∷ bs) p e =
    rank_by s ss a bs p (nat_lt a s) (first_at (bytes_eq bs) (argument_lists ss)) refl refl
    (λ q. rank_from ss bs q (omega (arith, e)))

from_none : (o : Option ℕ) (n : ℕ) → option_map (λ k. 0 * n + k) o ≡ o
from_none None n = refl
from_none (Some k) n = let same : 0 * n + k ≡ k = grind arith in ap Some same

-- the place of as many numbers as there are sizes
pub rank_is_position : (sizes args : List ℕ) → length args ≡ length sizes
    → fold ranked (Some 0) (zip sizes args) ≡ position (bytes_eq args) (argument_lists sizes)
rank_is_position sizes args e = rank_from sizes args 0 e
    ∙ from_none (first_at (bytes_eq args) (argument_lists sizes)) (product sizes)
    ∙ sym (position_is_first (bytes_eq args) (argument_lists sizes))

no_first : (sizes args : List ℕ) → length args ≢ length sizes
    → first_at (bytes_eq args) (argument_lists sizes) ≡ None
no_first [] [] differ = absurd (differ refl)
no_first [] (a ∷ bs) differ = refl
no_first (s ∷ ss) [] differ = no_empty (argument_lists ss) (range_with_len 0 s)
no_first (s ∷ ss) (a ∷ bs) differ = in_no_block (argument_lists ss) a bs (range_with_len 0 s)
    (no_first ss bs (λ e. differ (omega (arith, e))))

-- other lists have none
pub no_position : (sizes args : List ℕ) → length args ≢ length sizes
    → position (bytes_eq args) (argument_lists sizes) ≡ None
no_position sizes args differ = position_is_first (bytes_eq args) (argument_lists sizes)
    ∙ no_first sizes args differ
