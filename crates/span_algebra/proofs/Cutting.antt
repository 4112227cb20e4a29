-- Rising points, and those of them at which spans hold.
use Rattle.std.proofs.Common.{◌≡◌, ◌⊎◌, inl, inr, ℕ, ◌+◌, ◌<◌, ◌≤◌, Bool, true, false, cond, List}
use Rattle.std.proofs.Common.{[], ◌∷◌, ◌++◌, filter, Some, None, refl, sym, ◌∙◌, ap, arith}
use Rattle.std.proofs.Common.{append_assoc, append-nil, subst}
use Rattle.span_algebra.specs.declared.spans.Span.{Span}
use Rattle.span_algebra.specs.Normal.{IsNormal, IsRising, IsRisingFrom, covers}
use Rattle.span_algebra.specs.Walk.{front_of, after_front}
use Rattle.span_algebra.proofs.Parts.{rising_lower}
use Rattle.span_algebra.proofs.Covering.{covers_hit, covers_miss, covers_floor, normal_lower}

-- a span that ends below the points does not count
pub cut_drop : (s : Span) (rest : List Span) (p : ℕ) (points : List ℕ) → s.until < p
    → IsRisingFrom p points →
    filter (λ t. covers (s ∷ rest) t) points ≡ filter (λ t. covers rest t) points
cut_drop s rest p [] lt rising = refl
cut_drop s rest p (q ∷ qs) lt rising =
    rw (covers_miss s rest q (inr (omega (arith, rising.0))))
    (ap (λ (r : List ℕ). cond (covers rest q) (q ∷ r) r) (cut_drop s rest (q + 1) qs
    (omega (arith, rising.0)) rising.1))

pub record IsCutting (within : List Span) (points : List ℕ) (spans_left : List Span)
    (points_left out : List ℕ) : Type 0 where
  pub normal : IsNormal spans_left
  pub rising : IsRising points_left
  pub same : out ++ filter (λ t. covers spans_left t) points_left ≡ filter (λ t. covers within t)
      points

pub cut_span : (within : List Span) (points : List ℕ) (s : Span) (spans : List Span) (p : ℕ)
    (ps out : List ℕ) →
    IsCutting within points (s ∷ spans) (p ∷ ps) out → s.until < p
    → IsCutting within points spans (p ∷ ps) out
cut_span within points s spans p ps out c lt = record {
  normal = normal_lower (s.until + 1) 0 spans c.normal.2 (omega arith);
  rising = c.rising;
  same = ap (λ (r : List ℕ). out ++ r) (sym (cut_drop s spans p (p ∷ ps) lt (
    omega arith,
    c.rising.1,
  ))) ∙ c.same;
}

taken_by : (test : ℕ → Bool) (p : ℕ) (ps out : List ℕ) → test p ≡ true
    → (out ++ p ∷ []) ++ filter test ps ≡ out ++ filter test (p ∷ ps)
taken_by test p ps out is = rw (is, append_assoc) refl

left_out_by : (test : ℕ → Bool) (p : ℕ) (ps out : List ℕ) → test p ≡ false → out ++ filter test ps
    ≡ out ++ filter test (p ∷ ps)
left_out_by test p ps out is = rw is refl

pub cut_take : (within : List Span) (points : List ℕ) (s : Span) (spans : List Span) (p : ℕ)
    (ps out : List ℕ) →
    IsCutting within points (s ∷ spans) (p ∷ ps) out → p ≤ s.until → s.after < p
    → IsCutting within points (s ∷ spans) ps (out ++ p ∷ [])
cut_take within points s spans p ps out c high low = record {
  normal = c.normal;
  rising = rising_lower (p + 1) 0 ps c.rising.1 (omega arith);
  same = taken_by (λ t. covers (s ∷ spans) t) p ps out (covers_hit s spans p low high) ∙ c.same;
}

pub cut_leave : (within : List Span) (points : List ℕ) (s : Span) (spans : List Span) (p : ℕ)
    (ps out : List ℕ) →
    IsCutting within points (s ∷ spans) (p ∷ ps) out → p ≤ s.after
    → IsCutting within points (s ∷ spans) ps out
cut_leave within points s spans p ps out c low = record {
  normal = c.normal;
  rising = rising_lower (p + 1) 0 ps c.rising.1 (omega arith);
  same = left_out_by (λ t. covers (s ∷ spans) t) p ps out
      (covers_floor s.after (s ∷ spans) p (omega arith, c.normal.1, c.normal.2) low) ∙ c.same;
}

none_covered : (points : List ℕ) → filter (λ t. covers [] t) points ≡ []
none_covered [] = refl
none_covered (p ∷ rest) = none_covered rest

pub cutting_end : (within : List Span) (points : List ℕ) (spans : List Span) (ps out : List ℕ) →
    IsCutting within points spans ps out → (ps ≡ []) ⊎ (spans ≡ [])
    → out ≡ filter (λ t. covers within t) points
cutting_end within points spans ps out c (inl is) = sym (append-nil out) ∙ rw is at c.same
cutting_end within points spans ps out c (inr is) =
    sym (append-nil out) ∙ ap (λ (r : List ℕ). out ++ r) (sym (none_covered ps)) ∙ rw is at c.same

first_and_rest : {X : Type 0} (x : X) (xs : List X) → Some x ≡ front_of xs
    → x ∷ after_front xs ≡ xs
first_and_rest x [] is = cc
first_and_rest x (y ∷ ys) is = let same : x ≡ y = cc in ap (λ first. first ∷ ys) same

-- the same, from what the calls of one turn ensure
module _ (within : List Span) (points : List ℕ) (spans : List Span) (ps out : List ℕ)
    (s : Span) (p : ℕ) (c : IsCutting within points spans ps out) (point : Some p ≡ front_of ps)
    (span : Some s ≡ front_of spans) where
  by_fronts : IsCutting within points (s ∷ after_front spans) (p ∷ after_front ps) out
  by_fronts = subst (λ xs. IsCutting within points xs (p ∷ after_front ps) out)
      (sym (first_and_rest s spans span))
      (subst (λ xs. IsCutting within points spans xs out) (sym (first_and_rest p ps point)) c)

  pub turn_span : s.until < p → IsCutting within points (after_front spans) ps out
  turn_span lt = subst (λ xs. IsCutting within points (after_front spans) xs out)
      (first_and_rest p ps point)
      (cut_span within points s (after_front spans) p (after_front ps) out by_fronts lt)

  pub turn_take : p ≤ s.until → s.after < p
      → IsCutting within points spans (after_front ps) (out ++ p ∷ [])
  turn_take le lt = subst (λ xs. IsCutting within points xs (after_front ps) (out ++ p ∷ []))
      (first_and_rest s spans span)
      (cut_take within points s (after_front spans) p (after_front ps) out by_fronts le lt)

  pub turn_leave : p ≤ s.after → IsCutting within points spans (after_front ps) out
  turn_leave le = subst (λ xs. IsCutting within points xs (after_front ps) out)
      (first_and_rest s spans span)
      (cut_leave within points s (after_front spans) p (after_front ps) out by_fronts le)

pub no_front : {X : Type 0} (xs : List X) → None ≡ front_of xs → xs ≡ []
no_front [] is = refl
no_front (x ∷ xs) is = cc
