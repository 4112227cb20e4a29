-- The events of a window, read out event after event.
use Rattle.std.proofs.Common.{◌≡◌, ◌⊎◌, inl, inr, ℕ, zero, suc}
use Rattle.std.proofs.Common.{◌+◌, ◌-◌, ◌<◌, ◌≤◌, Bool, true, false}
use Rattle.std.proofs.Common.{cond, ◌&&◌, ◌||◌, eqb, leb, ltb}
use Rattle.std.proofs.Common.{List, [], ◌∷◌, ◌++◌, map}
use Rattle.std.proofs.Common.{filter, refl, sym, ap, subst, ◌∙◌, arith, true≢false}
use Rattle.std.specs.List.{flat_map, range_with_len, IsDistinct}
use Rattle.std.specs.List.Sorted.{IsPermutation, IsSorted}
use Rattle.std.specs.Map.{keys_of}
use Rattle.std.specs.Ordering.{nat_cmp}
use Rattle.std.proofs.lemmas.Bool.Decides.{nat_tests}
use Rattle.std.proofs.lemmas.List.Sorted.{IsNonDecreasingBy-from_sort, list_any-IsPermutation}
use Rattle.std.proofs.lemmas.Map.Keys.{IsStrictlyIncreasing-from_distinct, IsDistinct-IsPermutation}
use Rattle.rt_base.proofs.Numbers.{le_or_above}
use Rattle.ground_types.specs.declared.entries.Occ.{Occ}
use Rattle.ground_types.specs.Rows.{points}
use Rattle.ground_types.proofs.Members.{contains_filter}
use Rattle.span_algebra.specs.Normal.{IsRising, IsRisingFrom, has}
use Rattle.span_algebra.proofs.Having.{has_miss, has_floor}
use Rattle.derived_event.proofs.Gathered.{rising_from}
use Rattle.derived_event.proofs.Rising.{points_of_window}
use Rattle.event_store.specs.Standing.{Events, standing}
use Rattle.event_store.specs.Occurring.{occurrences_of}

eqb_turned : (a b : ℕ) → eqb a b ≡ eqb b a
eqb_turned a b = grind (arith, nat_tests)

-- numbers of which no two are the same rise once they are sorted
pub sorted_rise : (keys sorted : List ℕ) → IsDistinct eqb keys → IsPermutation keys sorted
    → IsSorted nat_cmp sorted → IsRising sorted
sorted_rise keys sorted apart moved up = rising_from 0 sorted (λ some. omega arith)
    (IsStrictlyIncreasing-from_distinct sorted (IsNonDecreasingBy-from_sort (λ x. x) sorted up)
    (IsDistinct-IsPermutation eqb eqb_turned keys sorted moved apart))

-- an event that stands somewhere is among those of which something is kept
kept_somewhere : (events : Events) (e t : ℕ) → has (standing events e) t ≡ true
    → has (keys_of events) e ≡ true
kept_somewhere [] e t is = is
kept_somewhere (x ∷ rest) e t is = by (eqb x.0 e) is (kept_somewhere rest e t)
  where
    by : (b : Bool) → has (cond b x.1.points (standing rest e)) t ≡ true
        → (has (standing rest e) t ≡ true → has (keys_of rest) e ≡ true)
        → (b || has (keys_of rest) e) ≡ true
    by true there later = refl
    by false there later = later there

pub all_are_sorted : (events : Events) (sorted : List ℕ) → IsPermutation (keys_of events) sorted
    → (e t : ℕ) → has (standing events e) t ≡ true → has sorted e ≡ true
all_are_sorted events sorted moved e t there =
    sym (list_any-IsPermutation (λ p. eqb p e) (keys_of events) sorted moved)
    ∙ kept_somewhere events e t there

filter_none : (test : ℕ → Bool) (n a : ℕ) → ((t : ℕ) → a ≤ t → t < a + n → test t ≡ false)
    → filter test (range_with_len a n) ≡ []
filter_none test zero a none = refl
filter_none test (suc n) a none =
    let rest : List ℕ = filter test (range_with_len (a + 1) n) in
    ap (λ (b : Bool). cond b (a ∷ rest) rest) (none a (omega arith) (omega arith))
    ∙ filter_none test n (a + 1) (λ t low high. none t (omega arith) (omega arith))

-- no point of the window passes the test
no_points : (test : ℕ → Bool) (w q : ℕ) → ((t : ℕ) → w < t → t ≤ q → test t ≡ false)
    → points test w q ≡ []
no_points test w q none = filter_none test (q - w) (w + 1)
    (λ t low high. none t (omega arith) (omega arith))

-- what is read of one event
pub read_event : (events : Events) (w q event : ℕ) (xs part : List ℕ) → xs ≡ standing events event
    → part ≡ filter (λ t. ltb w t && leb t q) xs → IsRising part
    → map (λ t. record { event = event; at = t }) part ≡ occurrences_of events w q event
read_event events w q event xs part is cut rising =
    ap (map (λ t. record { event = event; at = t }))
    (points_of_window (λ t. has (standing events event) t) w q part (le_or_above w q) rising
    (λ t. ap (λ l. has l t) cut ∙ contains_filter (λ p. ltb w p && leb p q) xs t
    ∙ ap (λ l. ltb w t && leb t q && has l t) is))

nothing_at : (events : Events) (w q e : ℕ)
    → ((t : ℕ) → w < t → t ≤ q → has (standing events e) t ≡ false)
    → occurrences_of events w q e ≡ []
nothing_at events w q e none =
    ap (map (λ t. record { event = e; at = t })) (no_points (λ t. has (standing events e) t) w q
    none)

-- lists of some numbers, one after the other, are those of all numbers from the first on, where the
-- others have none
none_after : (f : ℕ → List Occ) (start : ℕ) (keys : List ℕ) → IsRisingFrom start keys
    → ((e : ℕ) → start ≤ e → f e ≡ []) → flat_map f keys ≡ []
none_after f start [] rising none = refl
none_after f start (k ∷ rest) rising none =
    ap (λ (l : List Occ). l ++ flat_map f rest) (none k rising.0)
    ∙ none_after f (k + 1) rest rising.1 (λ e le. none e (omega (arith, rising.0)))

spread : (f : ℕ → List Occ) (n start : ℕ) (keys : List ℕ) → IsRisingFrom start keys
    → ((e : ℕ) → start ≤ e → has keys e ≡ false → f e ≡ [])
    → ((e : ℕ) → start + n ≤ e → f e ≡ [])
    → flat_map f keys ≡ flat_map f (range_with_len start n)
spread f zero start keys rising others after =
    none_after f start keys rising (λ e le. after e (omega arith))
spread f (suc n) start [] rising others after =
    spread f n (start + 1) [] tt (λ e le none. others e (omega arith) none)
    (λ e le. after e (omega arith))
    ∙ ap (λ (l : List Occ). l ++ flat_map f (range_with_len (start + 1) n))
    (sym (others start (omega arith) refl))
spread f (suc n) start (k ∷ rest) rising others after =
    by (le_or_above k start)
    (λ le here. spread f n (start + 1) rest here
    (λ e low none. others e (omega arith) (has_miss k rest e (λ is. absurd (omega arith)) ∙ none))
    (λ e low. after e (omega arith)))
    (λ up. spread f n (start + 1) (k ∷ rest) (up, rising.1)
    (λ e low none. others e (omega arith) none) (λ e low. after e (omega arith)))
  where
    by : (k ≤ start) ⊎ (start < k)
        → (k ≤ start → IsRisingFrom (start + 1) rest → flat_map f rest
        ≡ flat_map f (range_with_len (start + 1) n))
        → (start + 1 ≤ k → flat_map f (k ∷ rest) ≡ flat_map f (range_with_len (start + 1) n))
        → flat_map f (k ∷ rest) ≡ f start ++ flat_map f (range_with_len (start + 1) n)
    by (inl le) at later =
        let same : k ≡ start = omega (arith, rising.0) in
        ap (λ (e : ℕ). f e ++ flat_map f rest) same
        ∙ ap (λ (l : List Occ). f start ++ l) (at le (subst (λ (e : ℕ). IsRisingFrom (e + 1) rest)
        same rising.1))
    by (inr lt) at later =
        later (omega arith)
        ∙ ap (λ (l : List Occ). l ++ flat_map f (range_with_len (start + 1) n))
        (sym (others start (omega arith) (has_floor (start + 1) (k ∷ rest) start
        (omega arith, rising.1) (omega arith))))

not_true : (b : Bool) → (b ≡ true → ⊥) → b ≡ false
not_true true never = absurd (never refl)
not_true false never = refl

-- what is read of some events in rising order is what all events have
pub read_out : (events : Events) (w q : ℕ) (keys : List ℕ) → IsRising keys
    → ((e t : ℕ) → has (standing events e) t ≡ true → has keys e ≡ true) → (bound : ℕ)
    → ((e t : ℕ) → has (standing events e) t ≡ true → w < t → t ≤ q → e < bound)
    → flat_map (occurrences_of events w q) keys
    ≡ flat_map (occurrences_of events w q) (range_with_len 0 bound)
read_out events w q keys rising all bound below =
    spread (occurrences_of events w q) bound 0 keys rising
    (λ e le none. nothing_at events w q e (λ t low high. not_true (has (standing events e) t)
    (λ is. true≢false (sym (all e t is) ∙ none))))
    (λ e le. nothing_at events w q e (λ t low high. not_true (has (standing events e) t)
    (λ is. absurd (let lt : e < bound = below e t is low high in omega arith))))
