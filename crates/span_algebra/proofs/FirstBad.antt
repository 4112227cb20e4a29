-- The first item that breaks a rule.
use Rattle.std.proofs.Common.{◌≡◌, ℕ, zero, suc, ◌+◌, ◌-◌, ◌<◌, ◌≤◌, List, [], ◌∷◌, length, get_or}
use Rattle.std.proofs.Common.{◌↔◌, take, refl, arith, subst, Result, Err}
use Rattle.span_algebra.specs.Normal.{IsNormal, IsNormalFrom, IsRising, IsRisingFrom, IsFirstBad}
use Rattle.span_algebra.specs.declared.spans.Span.{Span}
use Rattle.span_algebra.specs.declared.refused.ListRefused.{ListRefused}
use Rattle.span_algebra.specs.declared.refused.ListRefused.TheVariants.{NotNormal}
use Rattle.rt_base.proofs.Numbers.{equal_from_bounds}

-- what holds of a list holds of its fronts
abbrev pub IsOfFronts : {X : Type 0} → (List X → Type 0) → Type 0
IsOfFronts {X} Rule = (n : ℕ) (xs : List X) → Rule xs → Rule (take n xs)

take_front : {X : Type 0} (m n : ℕ) (xs : List X) → m ≤ n → take m (take n xs) ≡ take m xs
take_front zero n xs le = refl
take_front (suc m) zero xs le = absurd (omega arith)
take_front (suc m) (suc n) [] le = refl
take_front (suc m) (suc n) (x ∷ xs) le = rw (take_front m n xs (omega arith)) refl

not_before : {X : Type 0} (Rule : List X → Type 0) (xs : List X) (p q : ℕ) → IsOfFronts Rule
    → IsFirstBad Rule xs p → Rule (take q xs) → p < q → ⊥
not_before Rule xs p q fronts bad before lt =
    bad.here (subst Rule (take_front (p + 1) q xs (omega arith)) (fronts (p + 1) (take q xs)
    before))

-- there is at most one
pub first_bad_unique : {X : Type 0} (Rule : List X → Type 0) (xs : List X) (p q : ℕ)
    → IsOfFronts Rule → IsFirstBad Rule xs p → IsFirstBad Rule xs q → p ≡ q
first_bad_unique Rule xs p q fronts one two =
    equal_from_bounds p q (not_before Rule xs p q fronts one two.before)
    (not_before Rule xs q p fronts two one.before)

-- and none in a list that keeps the rule
pub no_first_bad : {X : Type 0} (Rule : List X → Type 0) (xs : List X) (p : ℕ) → IsOfFronts Rule
    → Rule xs → IsFirstBad Rule xs p → ⊥
no_first_bad Rule xs p fronts rule bad = bad.here (fronts (p + 1) xs rule)

-- a list is refused at its first bad item, and at no other
pub refused_at : {X T : Type 0} (Rule : List X → Type 0) (xs : List X) (p place : ℕ)
    → IsOfFronts Rule → IsFirstBad Rule xs p →
    (let at : Result T ListRefused = Err (NotNormal p) in at ≡ Err (NotNormal place))
    ↔ IsFirstBad Rule xs place
refused_at Rule xs p place fronts bad = (
  λ is. (let same : p ≡ place = cc in subst (IsFirstBad Rule xs) same bad),
  λ other. (let same : p ≡ place = first_bad_unique Rule xs p place fronts bad other in cc),
)

-- and at none where it keeps the rule
pub refused_nowhere : {X T : Type 0} (Rule : List X → Type 0) (xs : List X) (place : ℕ)
    (result : Result T ListRefused) → IsOfFronts Rule → Rule xs →
    (result ≡ Err (NotNormal place) → ⊥) → (result ≡ Err (NotNormal place))
    ↔ IsFirstBad Rule xs place
refused_nowhere Rule xs place result fronts rule not = (
  λ is. absurd (not is),
  λ bad. absurd (no_first_bad Rule xs place fronts rule bad),
)

normal_fronts : (floor n : ℕ) (xs : List Span) → IsNormalFrom floor xs
    → IsNormalFrom floor (take n xs)
normal_fronts floor zero xs normal = tt
normal_fronts floor (suc n) [] normal = tt
normal_fronts floor (suc n) (s ∷ rest) normal =
    (normal.0, normal.1, normal_fronts (s.until + 1) n rest normal.2)

pub normal_of_fronts : IsOfFronts IsNormal
normal_of_fronts = λ n xs. normal_fronts 0 n xs

rising_fronts : (floor n : ℕ) (xs : List ℕ) → IsRisingFrom floor xs → IsRisingFrom floor (take n xs)
rising_fronts floor zero xs rising = tt
rising_fronts floor (suc n) [] rising = tt
rising_fronts floor (suc n) (p ∷ rest) rising = (rising.0, rising_fronts (p + 1) n rest rising.1)

pub rising_of_fronts : IsOfFronts IsRising
rising_of_fronts = λ n xs. rising_fronts 0 n xs

-- one more span keeps a list normal where it is not empty and lies above the one before it, and
-- only there
normal_more : (j floor : ℕ) (xs : List Span) (d : Span) → suc j < length xs
    → IsNormalFrom floor (take (suc j) xs) →
    (get_or xs (suc j) d).after < (get_or xs (suc j) d).until
    → (get_or xs j d).until < (get_or xs (suc j) d).after
    → IsNormalFrom floor (take (suc (suc j)) xs)
normal_more j floor [] d lt normal span above = absurd (omega arith)
normal_more zero floor (s ∷ []) d lt normal span above = absurd (omega arith)
normal_more zero floor (s ∷ u ∷ rest) d lt normal span above =
    (normal.0, normal.1, (omega arith, span, tt))
normal_more (suc j) floor (s ∷ rest) d lt normal span above =
    (normal.0, normal.1, normal_more j (s.until + 1) rest d (omega arith) normal.2 span above)

normal_last : (j floor : ℕ) (xs : List Span) (d : Span) → suc j < length xs
    → IsNormalFrom floor (take (suc (suc j)) xs) →
    (get_or xs j d).until < (get_or xs (suc j) d).after
normal_last j floor [] d lt normal = absurd (omega arith)
normal_last zero floor (s ∷ []) d lt normal = absurd (omega arith)
normal_last zero floor (s ∷ u ∷ rest) d lt normal = omega (arith, normal.2.0)
normal_last (suc j) floor (s ∷ rest) d lt normal = normal_last j (s.until + 1) rest d (omega arith)
    normal.2

span_last : (k floor : ℕ) (xs : List Span) (d : Span) → k < length xs
    → IsNormalFrom floor (take (suc k) xs) → (get_or xs k d).after < (get_or xs k d).until
span_last k floor [] d lt normal = absurd (omega arith)
span_last zero floor (s ∷ rest) d lt normal = normal.1
span_last (suc k) floor (s ∷ rest) d lt normal = span_last k (s.until + 1) rest d (omega arith)
    normal.2

pub normal_with : (k : ℕ) (xs : List Span) (d : Span) → k < length xs → (k ≡ 0 → ⊥)
    → IsNormal (take k xs) → (get_or xs k d).after < (get_or xs k d).until →
    ((get_or xs (k - 1) d).until < (get_or xs k d).after → IsNormal (take (k + 1) xs))
    × (IsNormal (take (k + 1) xs) → (get_or xs (k - 1) d).until < (get_or xs k d).after)
normal_with zero xs d lt some normal span = absurd (some refl)
normal_with (suc j) xs d lt some normal span =
    let more : suc j + 1 ≡ suc (suc j) = omega arith in
    let less : suc j - 1 ≡ j = omega arith in
    rw (more, less) (
      λ above. normal_more j 0 xs d lt normal span above,
      λ longer.
          normal_last j 0 xs d lt longer,
    )

pub not_normal_with : (k : ℕ) (xs : List Span) (d : Span) → k < length xs
    → (get_or xs k d).until ≤ (get_or xs k d).after → IsNormal (take (k + 1) xs) → ⊥
not_normal_with k xs d lt empty normal =
    let more : k + 1 ≡ suc k = omega arith in
    let span : (get_or xs k d).after < (get_or xs k d).until =
    span_last k 0 xs d lt (rw more at normal) in
    omega arith

-- one more point keeps a list rising where it is above the one before it, and only there
rising_more : (j floor : ℕ) (xs : List ℕ) → suc j < length xs
    → IsRisingFrom floor (take (suc j) xs) → get_or xs j 0 < get_or xs (suc j) 0 →
    IsRisingFrom floor (take (suc (suc j)) xs)
rising_more j floor [] lt rising above = absurd (omega arith)
rising_more zero floor (p ∷ []) lt rising above = absurd (omega arith)
rising_more zero floor (p ∷ q ∷ rest) lt rising above = (rising.0, (omega arith, tt))
rising_more (suc j) floor (p ∷ rest) lt rising above =
    (rising.0, rising_more j (p + 1) rest (omega arith) rising.1 above)

rising_last : (j floor : ℕ) (xs : List ℕ) → suc j < length xs
    → IsRisingFrom floor (take (suc (suc j)) xs) → get_or xs j 0 < get_or xs (suc j) 0
rising_last j floor [] lt rising = absurd (omega arith)
rising_last zero floor (p ∷ []) lt rising = absurd (omega arith)
rising_last zero floor (p ∷ q ∷ rest) lt rising = omega (arith, rising.1.0)
rising_last (suc j) floor (p ∷ rest) lt rising = rising_last j (p + 1) rest (omega arith) rising.1

pub rising_with : (k : ℕ) (xs : List ℕ) → k < length xs → (k ≡ 0 → ⊥) → IsRising (take k xs) →
    (get_or xs (k - 1) 0 < get_or xs k 0 → IsRising (take (k + 1) xs))
    × (IsRising (take (k + 1) xs) → get_or xs (k - 1) 0 < get_or xs k 0)
rising_with zero xs lt some rising = absurd (some refl)
rising_with (suc j) xs lt some rising =
    let more : suc j + 1 ≡ suc (suc j) = omega arith in
    let less : suc j - 1 ≡ j = omega arith in
    rw (more, less) (
      λ above. rising_more j 0 xs lt rising above,
      λ longer. rising_last j 0 xs lt
          longer,
    )
