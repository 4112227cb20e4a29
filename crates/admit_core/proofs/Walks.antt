-- Walks over slots.
use Rattle.std.proofs.Common.{◌≡◌, ◌<◌, ◌≤◌, ◌+◌, ◌-◌, ℕ, Bool, false, ◌⊎◌, inl, inr, List, length}
use Rattle.std.proofs.Common.{take, drop, get_or, sym, ◌∙◌, ap, arith, get_or-drop, get_or-take}
use Rattle.std.proofs.Common.{length-drop}
use Rattle.std.proofs.lemmas.Bool.{both_ways, cases_lt, cases_order}
use Rattle.admit_core.specs.Index.{Passes, IsWalk, IsFirst}

-- of two slots one is met before the other
pub passes_either : (s p q : ℕ) → (p ≡ q) ⊎ (Passes s p q ⊎ Passes s q p)
passes_either s p q =
    elim (cases_order p q) [
      | inl same ↦ inl same
      | inr apart ↦ elim apart [
        | inl below ↦ elim (cases_lt p s) [
          | inr far ↦ inr (inr (inl (far, below)))
          | inl near ↦ elim (cases_lt q s) [
            | inl both ↦ inr (inr (inr (both, inr below)))
            | inr one ↦ inr (inl (inr (near, inl one)))
          ]
        ]
        | inr above ↦ elim (cases_lt q s) [
          | inr far ↦ inr (inl (inl (far, above)))
          | inl near ↦ elim (cases_lt p s) [
            | inl both ↦ inr (inl (inr (both, inr above)))
            | inr one ↦ inr (inr (inr (near, inl one)))
          ]
        ]
      ]
    ]

-- what is passed before a slot is passed before those behind it
pub passes_further : (s p q r : ℕ) → Passes s p q → Passes s q r → Passes s p r
passes_further s p q r (inl a) (inl b) = inl (b.0, omega arith)
passes_further s p q r (inl a) (inr b) = absurd (omega arith)
passes_further s p q r (inr a) (inl b) = inr (a.0, inl b.0)
passes_further s p q r (inr (below, _)) (inr (near, inl far)) = inr (below, inl far)
passes_further s p q r (inr (below, inl ahead)) (inr (near, inr behind)) = absurd (omega arith)
passes_further s p q r (inr (below, inr ahead)) (inr (near, inr behind)) =
    let further : r < p = omega arith in
    inr (below, inr further)

-- no slot is passed before itself
pub passes_others : (s p : ℕ) → Passes s p p → ⊥
passes_others s p (inl a) = omega arith
passes_others s p (inr (below, inl a)) = omega arith
passes_others s p (inr (below, inr a)) = omega arith

module _ (n s : ℕ) (stop : ℕ → Bool) where
  -- a walk ends at one slot
  pub walk_unique : (p q : ℕ) → IsWalk n s stop p → IsWalk n s stop q → p ≡ q
  walk_unique p q one other =
      elim (passes_either s p q) [
        | inl same ↦ same
        | inr apart ↦ elim apart [
          | inl passed ↦ absurd (both_ways (stop q) (one.passed q other.within passed) other.here)
          | inr passed ↦ absurd (both_ways (stop p) (other.passed p one.within passed) one.here)
        ]
      ]

module _ (f : ℕ → Bool) (slots : List ℕ) (s : ℕ) (start : s ≤ length slots) where
  behind_is : (q : ℕ) → s ≤ q → f (get_or (drop s slots) (q - s) 0) ≡ f (get_or slots q 0)
  behind_is q far =
      let e : s + (q - s) ≡ q = omega arith in
      ap f (get_or-drop s slots (q - s) 0 ∙ ap (λ k. get_or slots k 0) e)

  before_is : (q : ℕ) → q < s → f (get_or (take s slots) q 0) ≡ f (get_or slots q 0)
  before_is q near = ap f (get_or-take s slots q 0 near)

  -- where no slot from s on stops, the walk ends at the first of the others that does
  pub walk_before : (p : ℕ) → ((q : ℕ) → q < length (drop s slots)
      → f (get_or (drop s slots) q 0) ≡ false)
      → p < s → IsFirst (length (take s slots)) (λ q. f (get_or (take s slots) q 0)) p
      → IsWalk (length slots) s (λ q. f (get_or slots q 0)) p
  walk_before p none near first = record {
    within = omega arith;
    here = sym (before_is p near) ∙ first.here;
    passed = λ q within passes. elim passes [
      | inl a ↦ absurd (omega arith)
      | inr a ↦ elim a.1 [
        | inl far ↦ sym (behind_is q far) ∙ none (q - s) (omega (arith, length-drop s slots))
        | inr below ↦ sym (before_is q (omega arith)) ∙ first.before q below
      ]
    ];
  }

  -- where none from s on stops, and none of the others, none does
  pub none_stops : ((q : ℕ) → q < length (drop s slots) → f (get_or (drop s slots) q 0) ≡ false)
      → ((q : ℕ) → q < s → f (get_or (take s slots) q 0) ≡ false)
      → (q : ℕ) → q < length slots → f (get_or slots q 0) ≡ false
  none_stops behind before q within =
      elim (cases_lt q s) [
        | inl near ↦ sym (before_is q near) ∙ before q near
        | inr far ↦ sym (behind_is q far) ∙ behind (q - s) (omega (arith, length-drop s slots))
      ]
