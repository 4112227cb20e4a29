-- Where the adds and revokes of a workload stand between its seals.
use Rattle.std.proofs.Common.{◌≡◌, ◌⊎◌, inl, inr, ℕ, zero, suc, ◌+◌, ◌*◌, ◌/◌, ◌%◌, ◌<◌, ◌≤◌, Bool}
use Rattle.std.proofs.Common.{true, cond, List, [], ◌∷◌, ◌++◌, length, filter, slice_get}
use Rattle.std.proofs.Common.{Some, ◌≢◌}
use Rattle.std.proofs.Common.{refl, sym, ◌∙◌, ap, arith, length-append, below_more}
use Rattle.std.proofs.Math.Nat.{zero-div, div-mul-le_self, mod-lt, add-mul}
use Rattle.std.proofs.lemmas.List.{append-nil}
use Rattle.std.proofs.lemmas.Nat.{le-div, div-mul-add, mod-mul-add, div-add-mod'}
use Rattle.std.proofs.lemmas.Bool.Decides.{eqb_tells}
use Rattle.std.proofs.lemmas.List.Elements.{filter-append}
use Rattle.ground_types.specs.declared.entries.Command.{Command}
use Rattle.ground_types.specs.declared.entries.Command.TheVariants.{Seal}
use Rattle.workload_draw.specs.Counts.{is_feed}
use Rattle.workload_draw.specs.Workload.{feed_at}
use Rattle.workload_draw.specs.Spaced.{AreSpaced}

-- ---- quotients

quotients_rise : (a b m : ℕ) → 0 < m → a ≤ b → a / m ≤ b / m
quotients_rise a b m some le =
    let self : (a / m) * m ≤ a = div-mul-le_self a m in
    le-div (a / m) b m some (omega arith)

-- at most m is below m or m
lt_or_eq : (a m : ℕ) → a ≤ m → (a < m) ⊎ (a ≡ m)
lt_or_eq a m le =
    elim (eqb_tells a m) [
      | inl same ↦ inr same.1
      | inr other ↦ inl (let ne : a ≢ m = other.1 in omega arith)
    ]

turns_by : (n m p r : ℕ) → 0 < m → p * m + r ≡ n → r < m → (r + 1 < m) ⊎ (r + 1 ≡ m)
    → (((n + 1) % m ≡ 0) × ((n + 1) / m ≡ p + 1)) ⊎ ((0 < (n + 1) % m) × ((n + 1) / m ≡ p))
turns_by n m p r some is low (inl less) =
    let next : n + 1 ≡ p * m + (r + 1) = omega arith in
    let rest : (n + 1) % m ≡ r + 1 = ap (λ k. k % m) next ∙ mod-mul-add p m (r + 1) less in
    inr (omega arith, ap (λ k. k / m) next ∙ div-mul-add p m (r + 1) less)
turns_by n m p r some is low (inr at) =
    let next : n + 1 ≡ (p + 1) * m + 0 = omega (arith, add-mul p 1 m) in
    inl (
      ap (λ k. k % m) next ∙ mod-mul-add (p + 1) m 0 some,
      ap (λ k. k / m) next ∙ div-mul-add (p + 1) m 0 some,
    )

-- a number is the last one before a multiple of m, or the next number is none
pub turns : (n m : ℕ) → 0 < m
    → (((n + 1) % m ≡ 0) × ((n + 1) / m ≡ n / m + 1))
    ⊎ ((0 < (n + 1) % m) × ((n + 1) / m ≡ n / m))
turns n m some =
    let p = n / m in
    let r = n % m in
    let is : p * m + r ≡ n = div-add-mod' n m in
    let low : r < m = mod-lt n some in
    turns_by n m p r some is low (lt_or_eq (r + 1) m (omega arith))

-- ---- lists

get_front : {X : Type 0} (xs ys : List X) (k : ℕ) → k < length xs → slice_get (xs ++ ys) k
    ≡ slice_get xs k
get_front [] ys k h = absurd (omega (arith, h))
get_front (x ∷ xs) ys zero h = refl
get_front (x ∷ xs) ys (suc k) h = get_front xs ys k (omega (arith, h))

get_last : {X : Type 0} (xs : List X) (x : X) (k : ℕ) → k ≡ length xs
    → slice_get (xs ++ x ∷ []) k ≡ Some x
get_last [] x k at = ap (slice_get (x ∷ [])) at
get_last (y ∷ xs) x zero at = absurd (omega arith)
get_last (y ∷ xs) x (suc k) at = get_last xs x k (omega arith)

feeds_fed : (before : List Command) (c : Command) → is_feed c ≡ true
    → filter is_feed (before ++ c ∷ []) ≡ filter is_feed before ++ c ∷ []
feeds_fed before c is =
    filter-append is_feed before (c ∷ [])
    ∙ ap (λ (b : Bool). filter is_feed before ++ cond {A = List Command} b (c ∷ []) []) is

feeds_sealed : (before : List Command) → filter is_feed (before ++ Seal ∷ [])
    ≡ filter is_feed before
feeds_sealed before = filter-append is_feed before (Seal ∷ []) ∙ append-nil (filter is_feed before)

-- ---- one command more

pub spaced_none : (m : ℕ) → AreSpaced m 0 (0 / m) []
spaced_none m = record {
  feeds = refl;
  all = omega (arith, zero-div m);
  placed = λ j h. absurd (omega (arith, h));
}

pub spaced_feed : (m n : ℕ) (before : List Command) (c : Command) → 0 < m → is_feed c ≡ true
    → AreSpaced m n (n / m) before → AreSpaced m (n + 1) (n / m) (before ++ c ∷ [])
spaced_feed m n before c some is spaced =
    let more : filter is_feed (before ++ c ∷ []) ≡ filter is_feed before ++ c ∷ [] =
    feeds_fed before c is in
    let long : length (before ++ c ∷ []) ≡ length before + 1 = length-append before (c ∷ []) in
    let long' : length (filter is_feed before ++ c ∷ []) ≡ length (filter is_feed before) + 1 =
    length-append (filter is_feed before) (c ∷ []) in
    record {
      feeds = omega (arith, ap length more, long', spaced.feeds);
      all = omega (arith, long, spaced.all);
      placed =
          below_more
          (λ j. slice_get (before ++ c ∷ []) (j + j / m) ≡ feed_at (before ++ c ∷ []) j) n
          (λ j h.
          let low : j / m ≤ n / m = quotients_rise j n m some (omega (arith, h)) in
          get_front before (c ∷ []) (j + j / m) (omega (arith, h, low, spaced.all))
          ∙ spaced.placed j h
          ∙ sym (get_front (filter is_feed before) (c ∷ []) j (omega (arith, h, spaced.feeds)))
          ∙ ap (λ (l : List Command). slice_get l j) (sym more))
          (get_last before c (n + n / m) (sym spaced.all)
          ∙ sym (get_last (filter is_feed before) c n (sym spaced.feeds))
          ∙ ap (λ (l : List Command). slice_get l n) (sym more));
    }

pub spaced_seal : (m n s : ℕ) (before : List Command) → 0 < m → n / m ≤ s
    → AreSpaced m (n + 1) s before → AreSpaced m (n + 1) (s + 1) (before ++ Seal ∷ [])
spaced_seal m n s before some low spaced =
    let same : filter is_feed (before ++ Seal ∷ []) ≡ filter is_feed before = feeds_sealed before in
    let long : length (before ++ Seal ∷ []) ≡ length before + 1 =
    length-append before (Seal ∷ []) in
    record {
      feeds = ap length same ∙ spaced.feeds;
      all = omega (arith, long, spaced.all);
      placed = λ j h.
          let below : j / m ≤ n / m = quotients_rise j n m some (omega (arith, h)) in
          get_front before (Seal ∷ []) (j + j / m) (omega (arith, h, low, below, spaced.all))
          ∙ spaced.placed j h
          ∙ ap (λ (l : List Command). slice_get l j) (sym same);
    }
