-- Points that are put in and taken out again, and what a walk over all marks makes of them.
use Rattle.std.proofs.Common.{◌≡◌, ◌==◌, ◌&&◌, ◌||◌, not, ℕ, Bool, true, false, List, [], map}
use Rattle.std.proofs.Common.{filter, eqb, ltb, Option, None, Some, refl, sym, ap, ◌∙◌}
use Rattle.std.proofs.Common.{◌∷◌, cond, subst, length, arith, true≢false}
use Rattle.std.specs.Cmp.{nat_eq_equiv}
use Rattle.std.specs.List.{IsDistinct}
use Rattle.std.specs.Map.{keys_of}
use Rattle.std.specs.Map.Calls.{RetainsPairs}
use Rattle.std.proofs.lemmas.Bool.Decides.{nat_tests}
use Rattle.std.proofs.lemmas.Map.Entries.{option_filter, lookup-filter-values}
use Rattle.std.specs.Option.{unwrap_or, option_map}
use Rattle.std.specs.Map.{lookup}
use Rattle.std.proofs.lemmas.Bool.{eqb-true}
use Rattle.std.proofs.lemmas.Map.Made.{lookup-map_values}
use Rattle.std.proofs.lemmas.Map.Views.{any-filter_same}
use Rattle.ground_types.specs.Touched.{differs}
use Rattle.span_algebra.specs.Normal.{IsRising, has}
use Rattle.span_algebra.proofs.Having.{rising_unique}
use Rattle.event_store.specs.Left.{has_some}
use Rattle.event_store.specs.Standing.{Kept, Events, standing, stood}
use Rattle.event_store.proofs.Lookups.{nothing, kept_of, standing_is, stood_is}

-- a point that was not there is put in and taken out again: the list is what it was
pub taken_back : (before between after : List ℕ) (at : ℕ) → has before at ≡ false
    → ((t : ℕ) → has between t ≡ (has before t || (t == at)))
    → ((t : ℕ) → has after t ≡ (has between t && not (t == at))) → IsRising before → IsRising after
    → after ≡ before
taken_back before between after at new put taken rising again =
    rising_unique 0 after before again rising (λ t. taken t ∙ ap (λ (b : Bool). b && not (t == at))
    (put t) ∙ by t (t == at) refl)
  where
    by : (t : ℕ) (b : Bool) → (t == at) ≡ b → ((has before t || b) && not b) ≡ has before t
    by t true is = none (has before t) ∙ sym new ∙ ap (λ (n : ℕ). has before n)
        (sym (eqb-true t at is))
      where
        none : (b : Bool) → ((b || true) && false) ≡ false
        none true = refl
        none false = refl
    by t false is = same (has before t)
      where
        same : (b : Bool) → ((b || false) && true) ≡ b
        same true = refl
        same false = refl

-- nothing is kept
pub none_left : (k : Kept) → has_some k ≡ false → k ≡ nothing
none_left k is = by k.points k.changed is
  where
    some : (b : Bool) → not (false && b) ≡ false → ⊥
    some b never = cc

    by : (points changed : List ℕ) → not ((length points == 0) && (length changed == 0)) ≡ false
        → record { points = points; changed = changed } ≡ nothing
    by [] [] none = refl
    by (p ∷ rest) changed none =
        let long : (length (p ∷ rest) == 0) ≡ false = grind (arith, nat_tests) in
        absurd (some (length changed == 0) (rw long at none))
    by [] (p ∷ rest) none =
        let long : (length (p ∷ rest) == 0) ≡ false = grind (arith, nat_tests) in
        absurd (true≢false (rw long at none))

-- a mark says how what stands differs from what stood
pub differs_again : (a b : Bool) → b ≡ differs a (differs a b)
differs_again true true = refl
differs_again true false = refl
differs_again false b = refl

-- what each event has where what is kept of all is changed alike
module _ (change : Kept → Kept) (old new : Events)
    (kept_changed : (e : ℕ) → kept_of new e ≡ change (kept_of old e)) where
  -- its points
  standing_changed : (e : ℕ) → standing new e ≡ (change (kept_of old e)).points
  standing_changed e = standing_is e new ∙ ap (λ k. k.points) (kept_changed e)

  stood_changed : (e t : ℕ) → stood new e t ≡ differs (has (change (kept_of old e)).points t)
      (has (change (kept_of old e)).changed t)
  stood_changed e t = stood_is e t new ∙ ap (λ k. differs (has k.points t) (has k.changed t))
      (kept_changed e)

-- a walk that changes what is kept of each event, and leaves out those of which nothing is left
module _ {F : Type 0} (T : F → ℕ → Kept → Bool → Kept → F → Type 0) (change : Kept → Kept) (f : F)
    (says : (k : ℕ) (v : Kept) (b : Bool) (w : Kept) (g : F) → T f k v b w g
    → (b ≡ has_some (change v)) × (w ≡ change v) × (g ≡ f)) where
  retained : (es kept : Events) → RetainsPairs T f es kept → kept
      ≡ map (λ e. (e.0, change e.1)) (filter (λ e. has_some (change e.1)) es)
  retained [] kept h = h
  retained (e ∷ es) kept h =
      let s = says e.0 e.1 h.0 h.1 h.2 h.4 in
      let rest = retained es h.3 (subst (λ g. RetainsPairs T g es h.3) s.2 h.5) in
      h.6 ∙ (λ j. cond {A = Events} (s.0 j) ((e.0, s.1 j) ∷ rest j) (rest j))
      ∙ by (has_some (change e.1))
    where
      by : (b : Bool) → cond {A = Events} b ((e.0, change e.1) ∷ map (λ x. (x.0, change x.1))
          (filter (λ x. has_some (change x.1)) es)) (map (λ x. (x.0, change x.1))
          (filter (λ x. has_some (change x.1)) es))
          ≡ map (λ x. (x.0, change x.1)) (cond {A = Events} b
          (e ∷ filter (λ x. has_some (change x.1)) es) (filter (λ x. has_some (change x.1)) es))
      by true = refl
      by false = refl

  -- of an event that is left out nothing would be kept
  pub kept_where_some : change nothing ≡ nothing → (es kept : Events) → IsDistinct eqb (keys_of es)
      → RetainsPairs T f es kept → (e : ℕ) → kept_of kept e ≡ change (kept_of es e)
  kept_where_some stays es kept apart h e = ap (λ l. kept_of l e) (retained es kept h)
      ∙ ap (λ found. unwrap_or found nothing) (lookup-map_values change (eqb e)
      (filter (λ x. has_some (change x.1)) es))
      ∙ ap (λ found. unwrap_or (option_map change found) nothing)
      (lookup-filter-values nat_eq_equiv (λ k. has_some (change k)) e es apart)
      ∙ by (lookup (eqb e) es)
    where
      one : (k : Kept) (b : Bool) → has_some (change k) ≡ b
          → unwrap_or (option_map change (cond b (Some k) None)) nothing ≡ change k
      one k true is = refl
      one k false is = sym (none_left (change k) is)

      by : (found : Option Kept)
          → unwrap_or (option_map change (option_filter (λ k. has_some (change k)) found)) nothing
          ≡ change (unwrap_or found nothing)
      by None = sym stays
      by (Some k) = one k (has_some (change k)) refl

-- the same where every entry stays
all_changed : (change : Kept → Kept) → change nothing ≡ nothing → (old new : Events)
    → new ≡ map (λ e. (e.0, change e.1)) old → (e : ℕ) → kept_of new e ≡ change (kept_of old e)
all_changed change stays old new walked e = ap (λ es. kept_of es e) walked
    ∙ ap (λ found. unwrap_or found nothing) (lookup-map_values change (eqb e) old)
    ∙ by (lookup (eqb e) old)
  where
    by : (found : Option Kept) → unwrap_or (option_map change found) nothing
        ≡ change (unwrap_or found nothing)
    by None = sym stays
    by (Some k) = refl

has_above : (w : ℕ) (xs : List ℕ) (t : ℕ) → has (filter (λ p. ltb w p) xs) t ≡ (ltb w t && has xs t)
has_above w xs t = any-filter_same (λ p. eqb p t) (λ p. ltb w p) (ltb w t)
    (λ k is. ap (λ (n : ℕ). ltb w n) (eqb-true k t is)) xs

-- the points above w alone
abbrev pub above : ℕ → Kept → Kept
above w k = record {
  points = filter (λ t. ltb w t) k.points;
  changed =
      filter (λ t. ltb w t) k.changed;
}

module _ (w : ℕ) (old new : Events)
    (walked : (e : ℕ) → kept_of new e ≡ above w (kept_of old e)) where
  pub slid_standing : (e t : ℕ) → has (standing new e) t ≡ (ltb w t && has (standing old e) t)
  slid_standing e t =
      ap (λ p. has p t) (standing_changed (above w) old new walked e)
      ∙ has_above w (kept_of old e).points t ∙ ap (λ p. ltb w t && has p t)
      (sym (standing_is e old))

  pub slid_stood : (e t : ℕ) → stood new e t ≡ (ltb w t && stood old e t)
  slid_stood e t =
      let k = kept_of old e in
      stood_changed (above w) old new walked e t
      ∙ (λ i. differs (has_above w k.points t i) (has_above w k.changed t i))
      ∙ both (ltb w t) (has k.points t) (has k.changed t) ∙ ap (λ b. ltb w t && b)
      (sym (stood_is e t old))
    where
      both : (a b c : Bool) → differs (a && b) (a && c) ≡ (a && differs b c)
      both true b c = refl
      both false b c = refl

-- the same points, with no mark
abbrev pub settled : Kept → Kept
settled k = record { points = k.points; changed = [] }

module _ (old new : Events) (walked : new ≡ map (λ e. (e.0, settled e.1)) old) where
  pub settled_standing : (e : ℕ) → standing new e ≡ standing old e
  settled_standing e = standing_changed settled old new (all_changed settled refl old new walked) e
      ∙ sym (standing_is e old)

  pub settled_stood : (e t : ℕ) → stood new e t ≡ has (standing old e) t
  settled_stood e t = stood_changed settled old new (all_changed settled refl old new walked) e t
      ∙ unmarked (has (kept_of old e).points t) ∙ ap (λ p. has p t) (sym (standing_is e old))
    where
      unmarked : (b : Bool) → differs b false ≡ b
      unmarked true = refl
      unmarked false = refl
