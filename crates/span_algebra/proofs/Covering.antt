-- The points of normal lists of spans.
use Rattle.std.proofs.Common.{◌≡◌, ◌⊎◌, inl, inr, ℕ, zero, suc, ◌+◌, ◌<◌, ◌≤◌, Bool, true, false}
use Rattle.std.proofs.Common.{◌&&◌, ◌||◌, leb, ltb, List, [], ◌∷◌, ◌++◌, length, get_or, refl, sym}
use Rattle.std.proofs.Common.{◌∙◌, arith, subst, ap, Option, Some, None, Bor}
use Rattle.std.proofs.Math.Bool.{or_assoc}
use Rattle.std.proofs.lemmas.Bool.Decides.{nat_tests}
use Rattle.std.specs.List.{HoldsAt}
use Rattle.std.specs.List.Sorted.{IsPartitionPoint}
use Rattle.std.specs.Prelude.{MatchOption}
use Rattle.span_algebra.specs.Normal.{IsNormal, IsNormalFrom, covers}
use Rattle.span_algebra.specs.declared.spans.Span.{Span}
use Rattle.std.proofs.lemmas.Bool.{ltb-true, ltb-false}
use Rattle.rt_base.proofs.Numbers.{le_or_above, equal_from_bounds}

-- the first span has the point, or has no say
pub covers_hit : (s : Span) (rest : List Span) (t : ℕ) → s.after < t → t ≤ s.until
    → covers (s ∷ rest) t ≡ true
covers_hit s rest t above within = grind (arith, nat_tests)

pub covers_miss : (s : Span) (rest : List Span) (t : ℕ) → (t ≤ s.after) ⊎ (s.until < t)
    → covers (s ∷ rest) t ≡ covers rest t
covers_miss s rest t (inl low) = grind (arith, nat_tests)
covers_miss s rest t (inr high) = grind (arith, nat_tests)

-- nothing at or below the floor is covered
pub covers_floor : (floor : ℕ) (xs : List Span) (t : ℕ) → IsNormalFrom floor xs → t ≤ floor
    → covers xs t ≡ false
covers_floor floor [] t normal low = refl
covers_floor floor (s ∷ rest) t normal low =
    let below : t ≤ s.after = omega (arith, normal.0) in
    covers_miss s rest t (inl below) ∙ covers_floor (s.until + 1) rest t normal.2
    (omega (arith, normal.0, normal.1))

-- each span ends below this point
abbrev pub IsBelow : ℕ → List Span → Type 0
IsBelow top [] = Unit {0}
IsBelow top (s ∷ rest) = (s.until < top) × IsBelow top rest

pub below_more : (top more : ℕ) (xs : List Span) → IsBelow top xs → top ≤ more → IsBelow more xs
below_more top more [] below le = tt
below_more top more (s ∷ rest) below le = (
  omega (arith, below.0),
  below_more top more rest below.1
      le,
)

pub below_push : (top : ℕ) (s : Span) (xs : List Span) → IsBelow top xs → s.until < top
    → IsBelow top (xs ++ s ∷ [])
below_push top s [] below lt = (lt, tt)
below_push top s (x ∷ rest) below lt = (below.0, below_push top s rest below.1 lt)

pub normal_push : (floor : ℕ) (s : Span) (xs : List Span) → IsNormalFrom floor xs → floor ≤ s.after
    → s.after < s.until → IsBelow s.after xs →
    IsNormalFrom floor (xs ++ s ∷ [])
normal_push floor s [] normal low span below = (low, span, tt)
normal_push floor s (x ∷ rest) normal low span below = (
  normal.0,
  normal.1,
  normal_push (x.until + 1) s rest normal.2 (omega (arith, below.0)) span
      below.1,
)

-- nothing above the ends is covered
pub covers_above : (top : ℕ) (xs : List Span) (t : ℕ) → IsBelow top xs → top ≤ t
    → covers xs t ≡ false
covers_above top [] t below le = refl
covers_above top (s ∷ rest) t below le = covers_miss s rest t (inr (omega (arith, below.0)))
    ∙ covers_above top rest t below.1 le

pub covers_append : (xs ys : List Span) (t : ℕ) → covers (xs ++ ys) t ≡ (covers xs t || covers ys t)
covers_append [] ys t = refl
covers_append (s ∷ rest) ys t = rw (covers_append rest ys t)
    (sym (or_assoc (ltb s.after t && leb t s.until) (covers rest t) (covers ys t)))

pub normal_lower : (floor less : ℕ) (xs : List Span) → IsNormalFrom floor xs → less ≤ floor
    → IsNormalFrom less xs
normal_lower floor less [] normal le = tt
normal_lower floor less (s ∷ rest) normal le = (omega (arith, normal.0), normal.1, normal.2)

-- the last points of the spans rise
until_above : (floor : ℕ) (xs : List Span) (k : ℕ) (d : Span) → IsNormalFrom floor xs
    → k < length xs → floor ≤ (get_or xs k d).until
until_above floor [] k d normal lt = absurd (omega arith)
until_above floor (s ∷ rest) zero d normal lt = omega (arith, normal.0, normal.1)
until_above floor (s ∷ rest) (suc k) d normal lt =
    let more : s.until + 1 ≤ (get_or rest k d).until = until_above (s.until + 1) rest k d normal.2
    (omega arith) in
    omega (arith, normal.0, normal.1, more)

pub until_rises : (floor : ℕ) (xs : List Span) → IsNormalFrom floor xs → (i j : ℕ) (d : Span)
    → i ≤ j → j < length xs →
    (get_or xs i d).until ≤ (get_or xs j d).until
until_rises floor [] normal i j d le lt = absurd (omega arith)
until_rises floor (s ∷ rest) normal zero zero d le lt = omega arith
until_rises floor (s ∷ rest) normal zero (suc j) d le lt =
    let more : s.until + 1 ≤ (get_or rest j d).until = until_above (s.until + 1) rest j d normal.2
    (omega arith) in
    omega (arith, more)
until_rises floor (s ∷ rest) normal (suc i) zero d le lt = absurd (omega arith)
until_rises floor (s ∷ rest) normal (suc i) (suc j) d le lt = until_rises (s.until + 1) rest
    normal.2 i j d (omega arith) (omega arith)

-- where the spans before a place end below a point, and the span there does not, that span alone
-- can have it
first_by : (s : Span) (floor : ℕ) (rest : List Span) (t : ℕ) → IsNormalFrom floor (s ∷ rest)
    → t ≤ s.until → (t ≤ s.after) ⊎ (s.after < t) →
    covers (s ∷ rest) t ≡ ltb s.after t
first_by s floor rest t normal le (inl low) =
    let no : ltb s.after t ≡ false = grind (arith, nat_tests) in
    covers_miss s rest t (inl low) ∙ covers_floor (s.until + 1) rest t normal.2 (omega arith)
    ∙ sym no
first_by s floor rest t normal le (inr above) =
    let yes : ltb s.after t ≡ true = grind (arith, nat_tests) in
    covers_hit s rest t above le ∙ sym yes

pub covers_at : (floor : ℕ) (xs : List Span) (i t : ℕ) (d : Span) → IsNormalFrom floor xs
    → i < length xs →
    ((k : ℕ) → k < i → (get_or xs k d).until < t) → t ≤ (get_or xs i d).until
    → covers xs t ≡ ltb (get_or xs i d).after t
covers_at floor [] i t d normal lt before here = absurd (omega arith)
covers_at floor (s ∷ rest) zero t d normal lt before here = first_by s floor rest t normal here
    (le_or_above t s.after)
covers_at floor (s ∷ rest) (suc i) t d normal lt before here =
    covers_miss s rest t (inr (before 0 (omega arith)))
    ∙ covers_at (s.until + 1) rest i t d normal.2 (omega arith) (λ k less.
    before (suc k) (omega arith)) here

-- and where they all end below it, none has it
pub covers_past : (xs : List Span) (t : ℕ) (d : Span) → ((k : ℕ) → k < length xs
    → (get_or xs k d).until < t) → covers xs t ≡ false
covers_past [] t d before = refl
covers_past (s ∷ rest) t d before =
    covers_miss s rest t (inr (before 0 (omega arith)))
    ∙ covers_past rest t d (λ k less. before (suc k) (omega arith))

-- where a search by halves finds the first span that does not end below a point, that span tells,
-- or there is none
abbrev pub IsFirstReaching : List Span → ℕ → ℕ → Type 0
IsFirstReaching xs t i = IsPartitionPoint (λ y. ltb y.until t ≡ true) (λ y. ltb y.until t ≡ false)
    xs i

pub covers_found : (xs : List Span) (i t : ℕ) (found : Option (Bor Span)) (told : Bool)
    → IsNormal xs → IsFirstReaching xs t i →
    MatchOption found (length xs ≤ i) (λ s. (i < length xs) × HoldsAt (λ y. s.now ≡ y) xs i) →
    MatchOption found (told ≡ false) (λ s. told ≡ ltb s.now.after t) → told ≡ covers xs t
covers_found xs i t None told normal point past is =
    is ∙ sym (covers_past xs t (record { after = 0; until = 0 }) (λ k less.
    ltb-true _ _ (point.0 k _ (omega arith) (omega arith))))
covers_found xs i t (Some s) told normal point there is =
    let at : covers xs t ≡ ltb (get_or xs i s.now).after t =
    covers_at 0 xs i t s.now normal there.0 (λ k less. ltb-true _ _ (point.0 k s.now (omega arith)
    less)) (ltb-false _ _ (point.1 i s.now (omega arith) there.0)) in
    is ∙ ap (λ (y : Span). ltb y.after t) (there.1 s.now) ∙ sym at

-- two normal lists with the same points begin alike
same_after : (floor : ℕ) (s u : Span) (xs ys : List Span) → IsNormalFrom floor (s ∷ xs)
    → IsNormalFrom floor (u ∷ ys) →
    ((t : ℕ) → covers (s ∷ xs) t ≡ covers (u ∷ ys) t) → s.after < u.after → ⊥
same_after floor s u xs ys left right same low =
    let hit : covers (s ∷ xs) (s.after + 1) ≡ true = covers_hit s xs (s.after + 1) (omega arith)
    (omega (arith, left.1)) in
    let none : covers (u ∷ ys) (s.after + 1) ≡ false = covers_floor u.after (u ∷ ys) (s.after + 1)
    (omega arith, right.1, right.2) (omega arith) in
    let both : true ≡ false = sym hit ∙ same (s.after + 1) ∙ none in
    cc

same_until : (floor : ℕ) (s u : Span) (xs ys : List Span) → IsNormalFrom floor (s ∷ xs)
    → IsNormalFrom floor (u ∷ ys) →
    ((t : ℕ) → covers (s ∷ xs) t ≡ covers (u ∷ ys) t) → s.after ≡ u.after → s.until < u.until → ⊥
same_until floor s u xs ys left right same starts low =
    let hit : covers (u ∷ ys) (s.until + 1) ≡ true = covers_hit u ys (s.until + 1)
    (omega (arith, left.1)) (omega arith) in
    let none : covers (s ∷ xs) (s.until + 1) ≡ false =
    covers_miss s xs (s.until + 1) (inr (omega arith)) ∙ covers_floor (s.until + 1) xs
    (s.until + 1) left.2 (omega arith) in
    let both : true ≡ false = sym hit ∙ sym (same (s.until + 1)) ∙ none in
    cc

same_rest : (s : Span) (xs ys : List Span) → IsNormalFrom (s.until + 1) xs
    → IsNormalFrom (s.until + 1) ys →
    ((t : ℕ) → covers (s ∷ xs) t ≡ covers (s ∷ ys) t) → (t : ℕ) → (t ≤ s.until + 1)
    ⊎ (s.until + 1 < t) → covers xs t ≡ covers ys t
same_rest s xs ys left right same t (inl low) = covers_floor (s.until + 1) xs t left low
    ∙ sym (covers_floor (s.until + 1) ys t right low)
same_rest s xs ys left right same t (inr high) =
    let above : s.until < t = omega arith in
    sym (covers_miss s xs t (inr above)) ∙ same t ∙ covers_miss s ys t (inr above)

span_eq : (a b c d : ℕ) → a ≡ c → b ≡ d → (let s : Span = record { after = a; until = b } in
    s ≡ record { after = c; until = d })
span_eq a b c d starts ends = cc

-- a normal list is fixed by its points
pub normal_unique : (floor : ℕ) (xs ys : List Span) → IsNormalFrom floor xs → IsNormalFrom floor ys
    →
    ((t : ℕ) → covers xs t ≡ covers ys t) → xs ≡ ys
normal_unique floor [] [] left right same = refl
normal_unique floor [] (u ∷ ys) left right same =
    let hit : covers (u ∷ ys) (u.after + 1) ≡ true = covers_hit u ys (u.after + 1) (omega arith)
    (omega (arith, right.1)) in
    absurd (let both : false ≡ true = same (u.after + 1) ∙ hit in cc)
normal_unique floor (s ∷ xs) [] left right same =
    let hit : covers (s ∷ xs) (s.after + 1) ≡ true = covers_hit s xs (s.after + 1) (omega arith)
    (omega (arith, left.1)) in
    absurd (let both : true ≡ false = sym hit ∙ same (s.after + 1) in cc)
normal_unique floor (s ∷ xs) (u ∷ ys) left right same =
    let starts : s.after ≡ u.after = equal_from_bounds _ _ (same_after floor s u xs ys left right
    same)
    (same_after floor u s ys xs right left (λ t. sym (same t))) in
    let ends : s.until ≡ u.until = equal_from_bounds _ _ (same_until floor s u xs ys left right
    same starts)
    (same_until floor u s ys xs right left (λ t. sym (same t)) (sym starts)) in
    let span : s ≡ u = span_eq s.after s.until u.after u.until starts ends in
    let again : IsNormalFrom (s.until + 1) ys = subst (λ (e : ℕ). IsNormalFrom (e + 1) ys)
    (sym ends) right.2 in
    let points : (t : ℕ) → covers (s ∷ xs) t ≡ covers (s ∷ ys) t =
    subst (λ (v : Span). (t : ℕ) → covers (s ∷ xs) t ≡ covers (v ∷ ys) t) (sym span) same in
    let rest : xs ≡ ys = normal_unique (s.until + 1) xs ys left.2 again
    (λ t. same_rest s xs ys left.2 again points t (le_or_above t (s.until + 1))) in
    cc
