-- Marks that change at one place.
use Rattle.std.proofs.Common.{◌≡◌, ◌⊎◌, inl, inr, ℕ, zero, suc, ◌+◌, ◌≤◌, max, List, [], ◌∷◌, ◌++◌}
use Rattle.std.proofs.Common.{length, take, set, slice_get, Some, None, refl, sym, ap, ap₂, subst}
use Rattle.std.proofs.Common.{◌∙◌, arith}
use Rattle.decl_known.proofs.Greatest.{greatest_cons}
use Rattle.strata_check.specs.declared.walk.Mark.{Mark}
use Rattle.strata_check.specs.declared.walk.Mark.TheVariants as mark
use Rattle.decl_known.specs.Layers.{greatest}
use Rattle.strata_check.specs.Rows.{row_at}
use Rattle.strata_check.specs.Walks.{layer_by_mark, layers_in, IsDoneMark, AreDone, finished}
use Rattle.strata_check.specs.Walks.{steps_at, steps_left}
use Rattle.std.proofs.lemmas.Bool.Decides.{nat_tests}

-- ---- lists that change at one place

module _ {X : Type 0} where
  pub set_cases : (xs : List X) (i : ℕ) (y : X) (j : ℕ)
      → (slice_get (set xs i y) j ≡ slice_get xs j)
      ⊎ ((j ≡ i) × (slice_get (set xs i y) j ≡ Some y))
  set_cases [] i y j = inl refl
  set_cases (x ∷ xs) zero y zero = inr (refl, refl)
  set_cases (x ∷ xs) zero y (suc j) = inl refl
  set_cases (x ∷ xs) (suc i) y zero = inl refl
  set_cases (x ∷ xs) (suc i) y (suc j) = elim (set_cases xs i y j) [
    | inl e ↦ inl e
    | inr e ↦ inr (ap suc e.0, e.1)
  ]

  pub set_same : (xs : List X) (i : ℕ) (x y : X) → slice_get xs i ≡ Some x
      → slice_get (set xs i y) i ≡ Some y
  set_same [] i x y e = absurd (cc)
  set_same (z ∷ xs) zero x y e = refl
  set_same (z ∷ xs) (suc i) x y e = set_same xs i x y e

  -- one more item is taken
  pub take_one : (xs : List X) (i : ℕ) (x : X) → slice_get xs i ≡ Some x → take (suc i) xs
      ≡ take i xs ++ x ∷ []
  take_one [] i x e = absurd (cc)
  take_one (z ∷ xs) zero x e = let same : z ≡ x = cc in ap (λ w. w ∷ []) same
  take_one (z ∷ xs) (suc i) x e = ap (λ l. z ∷ l) (take_one xs i x e)

  -- all items are taken
  pub take_past : (xs : List X) (i : ℕ) → slice_get xs i ≡ None → take i xs ≡ xs
  take_past [] zero e = refl
  take_past [] (suc i) e = refl
  take_past (z ∷ xs) zero e = absurd (cc)
  take_past (z ∷ xs) (suc i) e = ap (λ l. z ∷ l) (take_past xs i e)

-- ---- greatest layers

pub greatest_push : (ns : List ℕ) (n : ℕ) → greatest (ns ++ n ∷ []) ≡ max (greatest ns) n
greatest_push [] n = greatest_cons n [] ∙ omega arith
greatest_push (m ∷ ns) n =
    let e = greatest_cons m (ns ++ n ∷ []) in
    let f = greatest_cons m ns in
    let g = greatest_push ns n in
    omega arith

pub greatest_low : (ns : List ℕ) (most : ℕ) → ((i n : ℕ) → slice_get ns i ≡ Some n → n ≤ most)
    → greatest ns ≤ most
greatest_low [] most h = omega arith
greatest_low (n ∷ ns) most h =
    let e = greatest_cons n ns in
    let f : greatest ns ≤ most = greatest_low ns most (λ i m k. h (suc i) m k) in
    let g : n ≤ most = h 0 n refl in
    omega arith

-- ---- how many have layers

finished_cons : (m : Mark) (ms : List Mark) → finished (m ∷ ms) ≡ finished (m ∷ []) + finished ms
finished_cons mark.New ms = omega arith
finished_cons (mark.Open next top) ms = omega arith
finished_cons (mark.Done layer) ms = omega arith

pub finished_set : (ms : List Mark) (x : ℕ) (m old : Mark) → slice_get ms x ≡ Some old
    → finished (set ms x m) + finished (old ∷ []) ≡ finished ms + finished (m ∷ [])
finished_set [] x m old e = absurd (cc)
finished_set (k ∷ ms) zero m old e =
    let same : k ≡ old = cc in
    let one : finished (k ∷ []) ≡ finished (old ∷ []) = ap (λ z. finished (z ∷ [])) same in
    let new = finished_cons m ms in
    let was = finished_cons k ms in
    omega arith
finished_set (k ∷ ms) (suc x) m old e =
    let rest = finished_set ms x m old e in
    let new = finished_cons k (set ms x m) in
    let was = finished_cons k ms in
    omega arith

pub finished_most : (ms : List Mark) → finished ms ≤ length ms
finished_most [] = omega arith
finished_most (mark.New ∷ ms) = let r = finished_most ms in omega arith
finished_most (mark.Open next top ∷ ms) = let r = finished_most ms in omega arith
finished_most (mark.Done layer ∷ ms) = let r = finished_most ms in omega arith

-- ---- how many steps are left

pub steps_set : (rows : List (List ℕ)) (ms : List Mark) (x : ℕ) (m old : Mark)
    → length ms ≡ length rows → slice_get ms x ≡ Some old
    → steps_left rows (set ms x m) + steps_at (row_at rows x) old ≡ steps_left rows ms + steps_at
    (row_at rows x) m
steps_set rows [] x m old len e = absurd (cc)
steps_set [] (k ∷ ms) x m old len e = absurd (omega arith)
steps_set (row ∷ rows) (k ∷ ms) zero m old len e =
    let same : k ≡ old = cc in
    let one : steps_at row k ≡ steps_at row old = ap (steps_at row) same in
    omega arith
steps_set (row ∷ rows) (k ∷ ms) (suc x) m old len e =
    let rest = steps_set rows ms x m old (omega arith) e in
    omega arith

-- ---- places that are done stay so

pub done_push : (ms : List Mark) (us : List ℕ) (w : ℕ) → AreDone ms us
    → IsDoneMark (slice_get ms w) → AreDone ms (us ++ w ∷ [])
done_push ms [] w d e = (e, tt)
done_push ms (u ∷ us) w d e = (d.0, done_push ms us w d.1 e)

module _ (ms : List Mark) (x : ℕ) (m old : Mark) (at : slice_get ms x ≡ Some old)
    (undone : IsDoneMark (Some old) → ⊥) where
  pub kept_done : (u : ℕ) → IsDoneMark (slice_get ms u) → slice_get (set ms x m) u ≡ slice_get ms u
  kept_done u d =
      elim (set_cases ms x m u) [
        | inl e ↦ e
        | inr e ↦ absurd (undone (subst (λ o. IsDoneMark o) (ap (slice_get ms) e.0 ∙ at) d))
      ]

  pub all_kept : (us : List ℕ) → AreDone ms us → AreDone (set ms x m) us
      × (layers_in (set ms x m) us ≡ layers_in ms us)
  all_kept [] d = (tt, refl)
  all_kept (u ∷ us) d =
      let e = kept_done u d.0 in
      let r = all_kept us d.1 in
      ((subst (λ o. IsDoneMark o) (sym e) d.0, r.0), ap₂ (λ l ls. l ∷ ls) (ap layer_by_mark e) r.1)
