-- What an index gives, and what keeps it.
use Rattle.std.proofs.Common.{◌≡◌, ◌≢◌, ◌<◌, ◌≤◌, ◌+◌, ℕ, zero, suc, Bool, true, false, cond, ◌⊎◌}
use Rattle.std.proofs.Common.{inl, inr, List, [], ◌∷◌, ◌++◌, length, reverse, set, get_or, find}
use Rattle.std.proofs.Common.{count_by, Option, None, Some, refl, sym, ◌∙◌, ap, subst, arith, eqb}
use Rattle.std.proofs.Common.{get_or-set_other, get_or-set_same, length-append, add-one}
use Rattle.std.specs.List.{slice_get}
use Rattle.std.proofs.Math.ListN.{length-set}
use Rattle.std.proofs.lemmas.List.{reverse-append}
use Rattle.std.proofs.lemmas.List.Sums.{sum_by-set, sum_by-cons}
use Rattle.std.proofs.lemmas.Bool.{both_ways, cases_Bool, cases_eq, eqb-true, ne_eqb, and_parts}
use Rattle.std.proofs.lemmas.Bool.{false≢true, false_from_ne_true, cond-true, cond-false}
use Rattle.std.proofs.lemmas.Option.{same_Some}
use Rattle.ground_types.specs.History.{counts_for}
use Rattle.ground_types.specs.declared.entries.Entry.{Entry}
use Rattle.ground_types.specs.declared.entries.Entry.TheVariants.{Fed, Seal}
use Rattle.admit_core.specs.Index.{start, entry_at, stops, stops_at, Passes, EndsAt, is_empty}
use Rattle.admit_core.specs.Index.{IsIndex}
use Rattle.admit_core.proofs.Walks.{passes_either, passes_further, passes_others, walk_unique}

-- an entry counts for one event and point at most
same_key : (entry : Entry) (a b e t : ℕ) → counts_for a b entry ≡ true → counts_for e t entry ≡ true
    → (a ≡ e) × (b ≡ t)
same_key (Seal number) a b e t one other = absurd (false≢true one)
same_key (Fed feeder act event at reply) a b e t one other =
    let one_key = (and_parts _ _ (and_parts _ _ one).0) in
    let other_key = (and_parts _ _ (and_parts _ _ other).0) in (
      sym (eqb-true event a one_key.0) ∙ eqb-true event e other_key.0,
      sym (eqb-true at b one_key.1) ∙ eqb-true at t other_key.1,
    )

-- a pushed entry is at no lower place
slice_get_left : (xs ys : List Entry) (i : ℕ) → i < length xs
    → slice_get (xs ++ ys) i ≡ slice_get xs i
slice_get_left [] ys i within = absurd (omega arith)
slice_get_left (x ∷ xs) ys zero within = refl
slice_get_left (x ∷ xs) ys (suc i) within = slice_get_left xs ys i (omega arith)

-- and it is at the place behind the others
slice_get_seam : (xs : List Entry) (x : Entry) → slice_get (xs ++ x ∷ []) (length xs) ≡ Some x
slice_get_seam [] x = refl
slice_get_seam (y ∷ xs) x = slice_get_seam xs x

-- a slot of before names what it named
entry_at_push : (history : List Entry) (x : Entry) (slot : ℕ) → slot ≤ length history
    → entry_at (history ++ x ∷ []) slot ≡ entry_at history slot
entry_at_push history x zero fits = refl
entry_at_push history x (suc i) fits = slice_get_left history (x ∷ []) i (omega arith)

-- the last entry of a longer history that passes a test
find_push : (test : Entry → Bool) (history : List Entry) (x : Entry)
    → find test (reverse (history ++ x ∷ []))
    ≡ cond (test x) (Some x) (find test (reverse history))
find_push test history x = ap (λ (h : List Entry). find test h) (reverse-append history (x ∷ []))

-- where nothing passes a test, nothing is counted
none_counted : (test : ℕ → Bool) (xs : List ℕ)
    → ((q : ℕ) → q < length xs → test (get_or xs q 0) ≡ false)
    → count_by test xs ≡ 0
none_counted test [] none = refl
none_counted test (x ∷ xs) none =
    let head : test x ≡ false = none 0 (omega arith) in
    let first : cond {A = ℕ} (test x) 1 0 ≡ 0 = ap (λ (b : Bool). cond {A = ℕ} b 1 0) head in
    let others : count_by test xs ≡ 0 =
    none_counted test xs (λ q within. none (suc q) (omega arith)) in
    omega (arith, sum_by-cons (λ (y : ℕ). cond (test y) 1 0) x xs)

-- a walk over an index with a free slot meets one
pub meets_free : (n : ℕ) (slots : List ℕ) (history : List Entry) (event at : ℕ)
    → IsIndex n slots history
    → length history < n
    → ((q : ℕ) → q < length slots → stops_at history slots event at q ≡ false) → ⊥
meets_free n slots history event at index room none =
    let all : count_by is_empty slots ≡ 0 = none_counted is_empty slots (λ q within.
    false_from_ne_true (is_empty (get_or slots q 0)) (λ empty.
    both_ways (stops_at history slots event at q) (none q within)
    (ap (λ slot. stops event at (entry_at history slot)) (eqb-true (get_or slots q 0) 0 empty)))) in
    omega (arith, index.few)

one_at_most : (b : Bool) → cond {A = ℕ} b 1 0 ≤ 1
one_at_most true = omega arith
one_at_most false = omega arith

module _ (n : ℕ) (slots : List ℕ) (history : List Entry) (x : Entry)
    (index : IsIndex n slots history) where
  pushed : (q : ℕ)
      → entry_at (history ++ x ∷ []) (get_or slots q 0) ≡ entry_at history (get_or slots q 0)
  pushed q = entry_at_push history x (get_or slots q 0) (index.fits q)

  module _ (uncounted : (event at : ℕ) → counts_for event at x ≡ false) where
    -- an entry that counts for nothing comes without a change
    pub index_pass : IsIndex n slots (history ++ x ∷ [])
    index_pass = record {
      count = index.count;
      fits = λ q. omega (arith, index.fits q, length-append history (x ∷ []));
      met = λ event at q entry is counts.
          let walk = index.met event at q entry (sym (pushed q) ∙ is) counts in
          record {
            within = walk.within;
            here = ap (stops event at) (pushed q) ∙ walk.here;
            passed = λ r within passes. ap (stops event at) (pushed r)
                ∙ walk.passed r within passes;
          };
      last = λ event at q walk.
          pushed q
          ∙ index.last event at q (record {
            within = walk.within;
            here = ap (stops event at) (sym (pushed q)) ∙ walk.here;
            passed = λ r within passes. ap (stops event at) (sym (pushed r))
                ∙ walk.passed r within passes;
          })
          ∙ sym (find_push (counts_for event at) history x
          ∙ cond-false _ (Some x) (find (counts_for event at) (reverse history))
          (uncounted event at));
      few = omega (arith, index.few, length-append history (x ∷ []));
    }

  module _ (e t p : ℕ) (ends : EndsAt n history slots e t p)
      (counts : counts_for e t x ≡ true) where
    abbrev after : List ℕ
    after = set slots p (length history + 1)

    abbrev later : List Entry
    later = history ++ x ∷ []

    in_slots : p < length slots
    in_slots = omega (arith, ends.within, index.count)

    -- what the slots name after the change: the new entry at p, and elsewhere what they named
    named_here : entry_at later (get_or after p 0) ≡ Some x
    named_here =
        ap (entry_at later) (get_or-set_same slots p (length history + 1) 0 in_slots
        ∙ add-one (length history))
        ∙ slice_get_seam history x

    named_there : (q : ℕ) → q ≢ p
        → entry_at later (get_or after q 0) ≡ entry_at history (get_or slots q 0)
    named_there q apart =
        ap (entry_at later) (get_or-set_other slots p q (length history + 1) 0 apart) ∙ pushed q

    fits_after : (q : ℕ) → get_or after q 0 ≤ length later
    fits_after q =
        elim (cases_eq q p) [
          | inl same ↦
              let k : get_or after q 0 ≡ length history + 1 =
              ap (λ r. get_or after r 0) same
              ∙ get_or-set_same slots p (length history + 1) 0 in_slots in
              omega (arith, length-append history (x ∷ []))
          | inr apart ↦
              let k : get_or after q 0 ≡ get_or slots q 0 =
              get_or-set_other slots p q (length history + 1) 0 apart in
              omega (arith, index.fits q, length-append history (x ∷ []))
        ]

    -- a walk that doesn't meet p is as it was
    kept_walk : (a b q : ℕ) → EndsAt n history slots a b q → q ≢ p → counts_for a b x ≡ false
        → EndsAt n later after a b q
    kept_walk a b q walk apart misses = record {
      within = walk.within;
      here = ap (stops a b) (named_there q apart) ∙ walk.here;
      passed = λ r within passes. elim (cases_eq r p) [
        | inl same ↦ ap (λ k. stops a b (entry_at later (get_or after k 0))) same
            ∙ ap (stops a b) named_here ∙ misses
        | inr other ↦ ap (stops a b) (named_there r other) ∙ walk.passed r within passes
      ];
    }

    -- the walk for the event and point of the new entry ends where it did
    own_walk : EndsAt n later after e t p
    own_walk = record {
      within = ends.within;
      here = ap (stops e t) named_here ∙ counts;
      passed = λ r within passes. elim (cases_eq r p) [
        | inl same ↦ absurd (passes_others (start n e t) p
            (subst (λ k. Passes (start n e t) p k) same passes))
        | inr other ↦ ap (stops e t) (named_there r other) ∙ ends.passed r within passes
      ];
    }

    -- so does the walk for any event and point for which the new entry counts
    own_key : (a b : ℕ) → counts_for a b x ≡ true → EndsAt n later after a b p
    own_key a b hits =
        let same = same_key x a b e t hits counts in
        subst (λ k. EndsAt n later after k b p) (sym same.0)
        (subst (λ k. EndsAt n later after e k p) (sym same.1) own_walk)

    -- what is named is met
    met_after : (a b q : ℕ) (entry : Entry) → entry_at later (get_or after q 0) ≡ Some entry
        → counts_for a b entry ≡ true → EndsAt n later after a b q
    met_after a b q entry is hits =
        elim (cases_eq q p) [
          | inl same ↦
              let named : x ≡ entry = same_Some x entry
              (sym named_here ∙ ap (λ k. entry_at later (get_or after k 0)) (sym same) ∙ is) in
              subst (λ k. EndsAt n later after a b k) (sym same)
              (own_key a b (ap (counts_for a b) named ∙ hits))
          | inr apart ↦
              let walk = index.met a b q entry (sym (named_there q apart) ∙ is) hits in
              kept_walk a b q walk apart (false_from_ne_true (counts_for a b x) (λ same.
              let keys = same_key x a b e t same counts in
              apart (walk_unique n (start n e t) (stops_at history slots e t) q p
              (subst (λ k. EndsAt n history slots k t q) keys.0
              (subst (λ k. EndsAt n history slots a k q) keys.1 walk)) ends)))
        ]

    -- a walk that ends at another slot than p ended there before, or at p, which it now passes
    earlier_walk : (a b q : ℕ) → EndsAt n later after a b q → q ≢ p
        → EndsAt n history slots a b q ⊎ EndsAt n history slots a b p
    earlier_walk a b q walk apart =
        let s : ℕ = start n a b in
        let old : (r : ℕ) → r < n → Passes s q r → r ≢ p → stops_at history slots a b r ≡ false =
        λ r within passes other. ap (stops a b) (sym (named_there r other))
        ∙ walk.passed r within passes in
        let here : stops_at history slots a b q ≡ true =
        ap (stops a b) (sym (named_there q apart)) ∙ walk.here in
        elim (cases_Bool (stops_at history slots a b p)) [
          | inr goes_on ↦ inl (record {
            within = walk.within;
            here = here;
            passed = λ r within passes. elim (cases_eq r p) [
              | inl same ↦ ap (stops_at history slots a b) same ∙ goes_on
              | inr other ↦ old r within passes other
            ];
          })
          | inl halts ↦ elim (passes_either s q p) [
            | inl same ↦ absurd (apart same)
            | inr before ↦ elim before [
              | inl passed ↦ inr (record {
                within = ends.within;
                here = halts;
                passed = λ r within passes. old r within (passes_further s q p r passed passes)
                    (λ same. passes_others s p (subst (λ k. Passes s p k) same passes));
              })
              | inr passed ↦ inl (record {
                within = walk.within;
                here = here;
                passed = λ r within passes. old r within passes
                    (λ same. passes_others s p (passes_further s p q p passed
                    (subst (λ k. Passes s q k) same passes)));
              })
            ]
          ]
        ]

    -- where the walk of another event or point ended at p, p was empty
    empty_there : (a b : ℕ) (found : Option Entry) → entry_at history (get_or slots p 0) ≡ found
        → counts_for a b x ≡ false → stops a b found ≡ true → found ≡ None
    empty_there a b None is misses halts = refl
    empty_there a b (Some entry) is misses halts =
        let own : counts_for e t entry ≡ true = ap (stops e t) (sym is) ∙ ends.here in
        let keys = same_key entry a b e t halts own in
        absurd (both_ways (counts_for a b x) misses
        (subst (λ k. counts_for k b x ≡ true) (sym keys.0)
        (subst (λ k. counts_for e k x ≡ true) (sym keys.1) counts)))

    -- for what the new entry does not count, that which is found is as before
    last_of_others : (a b q : ℕ) (found : Option Entry)
        → entry_at history (get_or slots q 0) ≡ found
        → counts_for a b x ≡ false → q ≢ p → EndsAt n later after a b q
        → found ≡ find (counts_for a b) (reverse history)
    last_of_others a b q (Some entry) is misses apart walk =
        sym is ∙ index.last a b q (index.met a b q entry is
        (ap (stops a b) (sym is) ∙ ap (stops a b) (sym (named_there q apart)) ∙ walk.here))
    last_of_others a b q None is misses apart walk =
        elim (earlier_walk a b q walk apart) [
          | inl old ↦ sym is ∙ index.last a b q old
          | inr old ↦ sym (empty_there a b _ refl misses old.here) ∙ index.last a b p old
        ]

    -- each walk ends at the last entry that counts
    last_after : (a b q : ℕ) → EndsAt n later after a b q
        → entry_at later (get_or after q 0) ≡ find (counts_for a b) (reverse later)
    last_after a b q walk =
        elim (cases_Bool (counts_for a b x)) [
          | inl hits ↦
              let same : q ≡ p = walk_unique n (start n a b) (stops_at later after a b) q p walk
              (own_key a b hits) in
              ap (λ k. entry_at later (get_or after k 0)) same ∙ named_here
              ∙ sym (find_push (counts_for a b) history x ∙ cond-true _ (Some x) _ hits)
          | inr misses ↦
              let apart : q ≢ p = λ same. both_ways (counts_for a b x) misses
              (sym (ap (stops a b) named_here) ∙ ap (λ k. stops_at later after a b k) (sym same)
              ∙ walk.here) in
              named_there q apart
              ∙ last_of_others a b q _ refl misses apart walk
              ∙ sym (find_push (counts_for a b) history x ∙ cond-false _ (Some x) _ misses)
        ]

    few_after : n ≤ count_by is_empty after + length later
    few_after =
        let f : ℕ → ℕ = λ slot. cond {A = ℕ} (eqb slot 0) 1 0 in
        let change = sum_by-set f slots p (length history + 1) 0 in_slots in
        let full : f (length history + 1) ≡ 0 =
        ap (λ (b : Bool). cond {A = ℕ} b 1 0) (ne_eqb (length history + 1) 0 (λ e. omega arith)) in
        omega (
          arith,
          index.few,
          change,
          full,
          one_at_most (eqb (get_or slots p 0) 0),
          length-append history (x ∷ []),
        )

    -- the entry is noted at the slot where its walk ended
    pub index_put : IsIndex n after later
    index_put = record {
      count = length-set slots p (length history + 1) ∙ index.count;
      fits = fits_after;
      met = met_after;
      last = last_after;
      few = few_after;
    }
