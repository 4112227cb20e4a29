-- Lists of numbers below sizes, in order: how many there are, and which stands where.
use Rattle.std.proofs.Common.{◌≡◌, ℕ, zero, suc, ◌+◌, ◌*◌, ◌/◌, ◌%◌, ◌<◌, List, [], ◌∷◌, ◌++◌}
use Rattle.std.proofs.Common.{length, map, flat_map, slice_get, Option, option_map, Some, None}
use Rattle.std.proofs.Common.{refl, sym, subst, ◌∙◌, ap, arith, length-append}
use Rattle.std.proofs.Math.Nat.{mul-zero, zero-mul, suc-mul, mul-div_cancel_left, div-lt_iff_lt-mul}
use Rattle.std.proofs.Math.Nat.{mod-lt}
use Rattle.std.proofs.lemmas.Nat.{div-add-mod'}
use Rattle.std.proofs.lemmas.List.{length-map, append_assoc}
use Rattle.std.proofs.lemmas.Option.{slice_get-map}
use Rattle.std.specs.List.{range_with_len}
use Rattle.ground_types.specs.Sound.{argument_lists}

-- ---- one list behind another

pub get_front : {X : Type 0} (xs ys : List X) (k : ℕ) → k < length xs → slice_get (xs ++ ys) k
    ≡ slice_get xs k
get_front [] ys k h = absurd (omega (arith, h))
get_front (x ∷ xs) ys zero h = refl
get_front (x ∷ xs) ys (suc k) h = get_front xs ys k (omega (arith, h))

pub get_back : {X : Type 0} (xs ys : List X) (k : ℕ) → slice_get (xs ++ ys) (length xs + k)
    ≡ slice_get ys k
get_back [] ys k = ap (slice_get ys) (omega arith)
get_back (x ∷ xs) ys k =
    let e : suc (length xs) + k ≡ suc (length xs + k) = omega arith in
    ap (slice_get (x ∷ (xs ++ ys))) e ∙ get_back xs ys k

-- ---- products

abbrev pub product : List ℕ → ℕ
product [] = 1
product (size ∷ sizes) = size * product sizes

pub product_push : (sizes : List ℕ) (size : ℕ) → product (sizes ++ size ∷ []) ≡ product sizes * size
product_push [] size = grind arith
product_push (s ∷ ss) size = ap (λ n. s * n) (product_push ss size) ∙ grind arith

-- ---- lists that begin with each number of a range

module _ (tails : List (List ℕ)) where
  abbrev block : ℕ → List (List ℕ)
  block entity = map (λ rest. entity ∷ rest) tails

  length_blocks : (a n : ℕ) → length (flat_map block (range_with_len a n)) ≡ n * length tails
  length_blocks a zero = grind arith
  length_blocks a (suc n) =
      length-append (block a) (flat_map block (range_with_len (a + 1) n))
      ∙ ap (λ k. k + length (flat_map block (range_with_len (a + 1) n)))
      (length-map tails (λ rest. a ∷ rest))
      ∙ ap (λ k. length tails + k) (length_blocks (a + 1) n)
      ∙ grind (arith, suc-mul n (length tails))

  -- the list behind so many whole blocks, at a place in the next one
  pub in_block : (a n q r : ℕ) → q < n → r < length tails
      → slice_get (flat_map block (range_with_len a n)) (q * length tails + r)
      ≡ option_map (λ rest. (a + q) ∷ rest) (slice_get tails r)
  in_block a zero q r below inside = absurd (omega (arith, below))
  in_block a (suc n) zero r below inside =
      let at : 0 * length tails + r ≡ r = grind arith in
      let first : a ≡ a + 0 = omega arith in
      ap (slice_get (block a ++ flat_map block (range_with_len (a + 1) n))) at
      ∙ get_front (block a) (flat_map block (range_with_len (a + 1) n)) r
      (subst (λ k. r < k) (sym (length-map tails (λ rest. a ∷ rest))) inside)
      ∙ slice_get-map (λ rest. a ∷ rest) tails r
      ∙ ap (λ e. option_map (λ rest. e ∷ rest) (slice_get tails r)) first
  in_block a (suc n) (suc q) r below inside =
      let count : length (block a) ≡ length tails = length-map tails (λ rest. a ∷ rest) in
      let at : suc q * length tails + r ≡ length (block a) + (q * length tails + r) =
      grind (arith, suc-mul q (length tails), count) in
      let number : a + 1 + q ≡ a + suc q = omega arith in
      ap (slice_get (block a ++ flat_map block (range_with_len (a + 1) n))) at
      ∙ get_back (block a) (flat_map block (range_with_len (a + 1) n)) (q * length tails + r)
      ∙ in_block (a + 1) n q r (omega (arith, below)) inside
      ∙ ap (λ e. option_map (λ rest. e ∷ rest) (slice_get tails r)) number

-- how many lists there are
pub length_lists : (sizes : List ℕ) → length (argument_lists sizes) ≡ product sizes
length_lists [] = refl
length_lists (size ∷ sizes) = length_blocks (argument_lists sizes) 0 size
    ∙ ap (λ n. size * n) (length_lists sizes)

-- Numbers were taken in front of a list, and what is left of it stands at a place among the lists
-- of the sizes that are left.
pub record IsAt (sizes : List ℕ) (place : ℕ) (left : List ℕ) (count rest : ℕ) (front : List ℕ) :
    Type 0 where
  pub count_is : count ≡ length (argument_lists left)
  pub inside : rest < count
  pub found : slice_get (argument_lists sizes) place ≡ option_map (λ back. front ++ back)
      (slice_get (argument_lists left) rest)

module _ (sizes : List ℕ) (place size : ℕ) (left : List ℕ) (count rest : ℕ) (front : List ℕ)
    (at : IsAt sizes place (size ∷ left) count rest front) where
  abbrev tails : List (List ℕ)
  tails = argument_lists left

  total : count ≡ size * length tails
  total = at.count_is ∙ length_blocks tails 0 size

  some_of_both : (a b : ℕ) → rest < a * b → (0 < a) × (0 < b)
  some_of_both zero b h = absurd (omega (arith, h, zero-mul b))
  some_of_both (suc a) zero h = absurd (omega (arith, h, mul-zero (suc a)))
  some_of_both (suc a) (suc b) h = (omega arith, omega arith)

  some : (0 < size) × (0 < length tails)
  some = some_of_both size (length tails) (subst (λ n. rest < n) total at.inside)

  divided : count / size ≡ length tails
  divided = ap (λ n. n / size) total ∙ mul-div_cancel_left (length tails) some.0

  pub count_some : 0 < count / size
  count_some = subst (λ n. 0 < n) (sym divided) some.1

  below_by : rest / length tails < size
  below_by = (div-lt_iff_lt-mul some.1).1 (subst (λ n. rest < n) total at.inside)

  pub number_below : rest / (count / size) < size
  number_below = subst (λ n. rest / n < size) (sym divided) below_by

  put_in_front : (number : ℕ) (o : Option (List ℕ)) → option_map (λ back. front ++ back)
      (option_map (λ back. number ∷ back) o) ≡ option_map (λ back. (front ++ number ∷ []) ++ back)
      o
  put_in_front number None = refl
  put_in_front number (Some back) = ap Some (sym (append_assoc front (number ∷ []) back))

  found_by : slice_get (argument_lists (size ∷ left)) rest
      ≡ option_map (λ back. (rest / length tails) ∷ back) (slice_get tails (rest % length tails))
  found_by =
      ap (slice_get (argument_lists (size ∷ left))) (sym (div-add-mod' rest (length tails)))
      ∙ in_block tails 0 size (rest / length tails) (rest % length tails) below_by
      (mod-lt rest some.1)
      ∙ ap (λ n. option_map (λ back. n ∷ back) (slice_get tails (rest % length tails)))
      (omega arith)

  next_by : IsAt sizes place left (length tails) (rest % length tails)
      (front ++ (rest / length tails) ∷ [])
  next_by = record {
    count_is = refl;
    inside = mod-lt rest some.1;
    found = at.found ∙ ap (option_map (λ back. front ++ back)) found_by
        ∙ put_in_front (rest / length tails) (slice_get tails (rest % length tails));
  }

  -- one number more
  pub next_at : IsAt sizes place left (count / size) (rest % (count / size))
      (front ++ (rest / (count / size)) ∷ [])
  next_at = subst (λ n. IsAt sizes place left n (rest % n) (front ++ (rest / n) ∷ []))
      (sym divided) next_by
