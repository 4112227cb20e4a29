-- The places of items by a key: those of one key, in order, and the lists of places for key after
-- key.
use Rattle.std.proofs.Common.{◌≡◌, inl, inr, ℕ, zero, suc, ◌+◌, ◌<◌, ◌≤◌, ◌==◌, Bool, true, false}
use Rattle.std.proofs.Common.{true≢false, List, [], ◌∷◌, map, filter, flat_map, cond, slice_get}
use Rattle.std.proofs.Common.{Some, refl, sym, ap, subst, ◌∙◌, arith}
use Rattle.std.proofs.lemmas.Bool.{eqb-true, eq-eqb, false_from_ne_true, cases_lt, or_right}
use Rattle.std.specs.List.{enumerate_from, range_with_len}
use Rattle.ground_types.specs.Members.{contains}
use Rattle.ground_types.proofs.Members.{contains_hit, contains_left, contains_right, first_or_rest}

-- no number stands twice in a list
abbrev pub AreOnce : List ℕ → Type 0
AreOnce [] = Unit {0}
AreOnce (n ∷ ns) = (contains ns n ≡ false) × AreOnce ns

pub contains_later : (x : ℕ) (rest : List ℕ) (t : ℕ) → contains rest t ≡ true
    → contains (x ∷ rest) t ≡ true
contains_later x rest t is = or_right (x == t) (contains rest t) is

module _ {X : Type 0} (key : X → ℕ) where
  -- the places of the items of a key, the first item at place n
  abbrev pub of_key : ℕ → ℕ → List X → List ℕ
  of_key n k xs = map (λ u. u.0) (filter (λ u. key u.1 == k) (enumerate_from n xs))

  abbrev with_first : ℕ → ℕ → X → List X → Bool → List ℕ
  with_first n k x xs kept = map (λ (u : ℕ × X). u.0)
      (cond kept ((n, x) ∷ filter (λ u. key u.1 == k) (enumerate_from (n + 1) xs))
      (filter (λ u. key u.1 == k) (enumerate_from (n + 1) xs)))

  -- a place at which an item of the key stands
  pub record IsOfKey (n k : ℕ) (xs : List X) (u : ℕ) : Type 0 where
    pub item : X
    pub index : ℕ
    pub at : slice_get xs index ≡ Some item
    pub place : u ≡ n + index
    pub key_is : key item ≡ k

  shifted : (n k : ℕ) (x : X) (xs : List X) (u : ℕ) → IsOfKey (n + 1) k xs u
      → IsOfKey n k (x ∷ xs) u
  shifted n k x xs u is = record {
    item = is.item;
    index = suc is.index;
    at = is.at;
    place = omega (arith, is.place);
    key_is = is.key_is;
  }

  pub each_of_key : (n k : ℕ) (xs : List X) (u : ℕ) → contains (of_key n k xs) u ≡ true
      → IsOfKey n k xs u
  each_of_key n k [] u is = absurd (true≢false (sym is))
  each_of_key n k (x ∷ xs) u is = by (key x == k) refl (each_of_key (n + 1) k xs u)
    where
      by : (b : Bool) → (key x == k) ≡ b → (contains (of_key (n + 1) k xs) u ≡ true
          → IsOfKey (n + 1) k xs u) → IsOfKey n k (x ∷ xs) u
      by true e rest = elim (first_or_rest n (of_key (n + 1) k xs) u
          (sym (ap (λ b. contains (with_first n k x xs b) u) e) ∙ is)) [
            | inl same ↦ record {
              item = x;
              index = 0;
              at = refl;
              place = omega (arith, same);
              key_is =
                  eqb-true (key x) k e;
            }
            | inr later ↦ shifted n k x xs u (rest later)
          ]
      by false e rest = shifted n k x xs u
          (rest (sym (ap (λ b. contains (with_first n k x xs b) u) e) ∙ is))

  kept_later : (n k : ℕ) (x : X) (xs : List X) (u : ℕ) (b : Bool) → contains (of_key (n + 1) k xs)
      u ≡ true → contains (with_first n k x xs b) u ≡ true
  kept_later n k x xs u true is = contains_later n (of_key (n + 1) k xs) u is
  kept_later n k x xs u false is = is

  pub is_of_key : (n k : ℕ) (xs : List X) (index : ℕ) (item : X) → slice_get xs index ≡ Some item
      → key item ≡ k → contains (of_key n k xs) (n + index) ≡ true
  is_of_key n k [] index item at e = absurd (cc)
  is_of_key n k (x ∷ xs) zero item at e =
      let same : x ≡ item = cc in
      ap (λ b. contains (with_first n k x xs b) (n + 0)) (eq-eqb (key x) k (ap key same ∙ e))
      ∙ contains_hit n (of_key (n + 1) k xs) (n + 0) (omega arith)
  is_of_key n k (x ∷ xs) (suc index) item at e =
      let place : n + 1 + index ≡ n + suc index = omega arith in
      kept_later n k x xs (n + suc index) (key x == k) (ap (contains (of_key (n + 1) k xs))
      (sym place) ∙ is_of_key (n + 1) k xs index item at e)

  -- each of them stands in the list once
  pub once_of_key : (n k : ℕ) (xs : List X) → AreOnce (of_key n k xs)
  once_of_key n k [] = tt
  once_of_key n k (x ∷ xs) = by (key x == k) (once_of_key (n + 1) k xs)
    where
      behind : contains (of_key (n + 1) k xs) n ≡ false
      behind = false_from_ne_true (contains (of_key (n + 1) k xs) n) (λ is. let place =
          (each_of_key (n + 1) k xs n is).place in omega (arith, place))

      by : (b : Bool) → AreOnce (of_key (n + 1) k xs) → AreOnce (with_first n k x xs b)
      by true rest = (behind, rest)
      by false rest = rest

  -- ---- the lists of places for so many keys from the first on

  abbrev pub by_keys : List X → ℕ → ℕ → List (List ℕ)
  by_keys xs k count = map (λ layer. of_key 0 layer xs) (range_with_len k count)

  pub among_keys : (xs : List X) (k count index : ℕ) (item : X) → slice_get xs index ≡ Some item
      → k ≤ key item → key item < k + count
      → contains (flat_map (λ layer. layer) (by_keys xs k count)) index ≡ true
  among_keys xs k zero index item at low high = absurd (omega (arith, low, high))
  among_keys xs k (suc count) index item at low high = elim (cases_lt k (key item)) [
    | inl above ↦ contains_right (of_key 0 k xs) (flat_map (λ layer. layer)
        (by_keys xs (k + 1) count)) index
        (among_keys xs (k + 1) count index item at (omega (arith, above)) (omega (arith, high)))
    | inr below ↦ contains_left (of_key 0 k xs) (flat_map (λ layer. layer)
        (by_keys xs (k + 1) count)) index
        (let none : 0 + index ≡ index = omega arith in
        subst (λ n. contains (of_key 0 k xs) n ≡ true) none (is_of_key 0 k xs index item at
        (omega (arith, low, below))))
  ]
