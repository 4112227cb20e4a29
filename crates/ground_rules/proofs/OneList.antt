-- Items sorted into lists by a number stand in one list each.
use Rattle.std.proofs.Common.{◌≡◌, ℕ, zero, suc, ◌+◌, ◌≤◌, nat_lt, Bool, true, false, cond, ◌==◌}
use Rattle.std.proofs.Common.{List, [], ◌∷◌, ◌++◌, length, map, filter, filter_map, sum_by, Option}
use Rattle.std.proofs.Common.{Some, None, refl, sym, ap, ap₂, ◌∙◌, arith}
use Rattle.std.specs.List.{cons_option, range_with_len}
use Rattle.std.proofs.lemmas.Bool.Decides.{nat_tests}
use Rattle.std.proofs.lemmas.List.Sums.{sum_by-cons, sum_by-le-sum_by}
use Rattle.decl_known.proofs.Gathering.{option_length}

-- ---- sums

pub sum_by-add : {X : Type 0} (f g : X → ℕ) (xs : List X) → sum_by (λ x. f x + g x) xs
    ≡ sum_by f xs + sum_by g xs
sum_by-add f g [] = refl
sum_by-add f g (x ∷ xs) =
    omega (
      arith,
      sum_by-cons (λ x. f x + g x) x xs,
      sum_by-cons f x xs,
      sum_by-cons g x xs,
      sum_by-add f g xs,
    )

pub sum_by-map : {X Y : Type 0} (f : Y → ℕ) (h : X → Y) (xs : List X) → sum_by f (map h xs)
    ≡ sum_by (λ x. f (h x)) xs
sum_by-map f h [] = refl
sum_by-map f h (x ∷ xs) = sum_by-cons f (h x) (map h xs)
    ∙ ap (λ n. f (h x) + n) (sum_by-map f h xs) ∙ sym (sum_by-cons (λ x. f (h x)) x xs)

no_sum : {X : Type 0} (xs : List X) → sum_by (λ x. 0) xs ≡ 0
no_sum [] = refl
no_sum (x ∷ xs) = omega (arith, sum_by-cons (λ x. 0) x xs, no_sum xs)

pub range_in_two : (n m first : ℕ) → range_with_len first (n + m) ≡ range_with_len first n
    ++ range_with_len (first + n) m
range_in_two zero m first =
    let more : 0 + m ≡ m = omega arith in
    let here : first ≡ first + 0 = omega arith in
    ap₂ range_with_len here more
range_in_two (suc n) m first =
    let more : suc n + m ≡ suc (n + m) = omega arith in
    let there : (first + 1) + n ≡ first + suc n = omega arith in
    ap (range_with_len first) more ∙ ap (λ rest. first ∷ rest) (range_in_two n m (first + 1)
    ∙ ap (λ next. range_with_len (first + 1) n ++ range_with_len next m) there)

-- ---- each item in one list

-- a number is met at most once in a range, and not behind itself
once : (k w n first : ℕ) → sum_by (λ u. cond (k == u) w 0) (range_with_len first n)
    ≤ cond (nat_lt k first) 0 w
once k w zero first = omega arith
once k w (suc n) first =
    let parts = sum_by-cons (λ u. cond (k == u) w 0) first (range_with_len (first + 1) n) in
    let rest = once k w n (first + 1) in
    grind (arith, nat_tests, parts, rest)

at_most : (b : Bool) (w : ℕ) → cond b 0 w ≤ w
at_most true w = omega arith
at_most false w = omega arith

module _ {X : Type 0} (key weight : X → ℕ) where
  one_more : (b : Bool) (x : X) (xs : List X) → sum_by weight (cond b (x ∷ xs) xs) ≤ cond b
      (weight x) 0 + sum_by weight xs
  one_more true x xs = omega (arith, sum_by-cons weight x xs)
  one_more false x xs = omega arith

  -- the lists for a range of numbers weigh no more than all items together
  pub in_one_list : (xs : List X) (n first : ℕ)
      → sum_by (λ u. sum_by weight (filter (λ x. key x == u) xs)) (range_with_len first n) ≤ sum_by
      weight xs
  in_one_list [] n first = omega (arith, no_sum (range_with_len first n))
  in_one_list (x ∷ xs) n first =
      omega (
        arith,
        sum_by-le-sum_by (λ u. sum_by weight (filter (λ x. key x == u) (x ∷ xs)))
            (λ u. cond (key x == u) (weight x) 0 + sum_by weight (filter (λ x. key x == u) xs))
            (range_with_len first n) (λ u. one_more (key x == u) x (filter (λ x. key x == u) xs)),
        sum_by-add (λ u. cond (key x == u) (weight x) 0)
            (λ u. sum_by weight (filter (λ x. key x == u) xs)) (range_with_len first n),
        once (key x) (weight x) n first,
        at_most (nat_lt (key x) first) (weight x),
        in_one_list xs n first,
        sum_by-cons weight x xs,
      )

-- ---- what is kept of items

pub one_at_most : {X : Type 0} (o : Option X) → length (cons_option o []) ≤ 1
one_at_most None = omega arith
one_at_most (Some x) = omega arith

module _ {X : Type 0} (weight : X → ℕ) {Y : Type 0} (f : X → Option Y) where
  pub kept_weigh : ((x : X) → length (cons_option (f x) []) ≤ weight x) → (xs : List X)
      → length (filter_map f xs) ≤ sum_by weight xs
  kept_weigh each [] = omega arith
  kept_weigh each (x ∷ xs) = omega (
    arith,
    sum_by-cons weight x xs,
    option_length (f x)
        (filter_map f xs),
    each x,
    kept_weigh each xs,
  )

  pub both_weigh : (g : X → Option Y) → ((x : X) → length (cons_option (f x) []) + length
      (cons_option (g x) []) ≤ weight x)
      → (xs : List X) → length (filter_map f xs) + length (filter_map g xs) ≤ sum_by weight xs
  both_weigh g each [] = omega arith
  both_weigh g each (x ∷ xs) =
      omega (
        arith,
        sum_by-cons weight x xs,
        option_length (f x) (filter_map f xs),
        option_length (g x) (filter_map g xs),
        each x,
        both_weigh g each xs,
      )
