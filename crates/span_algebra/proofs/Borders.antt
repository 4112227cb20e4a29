-- The borders of a list of spans that are left on a walk.
use Rattle.std.proofs.Common.{◌≡◌, ℕ, ◌+◌, ◌<◌, ◌≤◌, Bool, true, false, not, cond, ◌&&◌, ◌||◌, leb}
use Rattle.std.proofs.Common.{ltb, List, [], ◌∷◌, Some, refl, ◌∙◌, ap, arith}
use Rattle.std.proofs.lemmas.Bool.Decides.{nat_tests}
use Rattle.span_algebra.specs.declared.spans.Span.{Span}
use Rattle.span_algebra.specs.Normal.{IsNormalFrom, IsRisingFrom, covers}
use Rattle.span_algebra.specs.Walk.{borders, front_of, after_front}
use Rattle.span_algebra.proofs.Covering.{covers_floor}

-- what holds at a point, from what holds before these borders
abbrev pub status : Bool → List ℕ → ℕ → Bool
status inside [] t = inside
status inside (p ∷ rest) t = cond (ltb p t) (status (not inside) rest t) inside

-- after the last border nothing holds
abbrev pub Ends : Bool → List ℕ → Type 0
Ends inside [] = inside ≡ false
Ends inside (p ∷ rest) = Ends (not inside) rest

pub borders_rise : (floor : ℕ) (xs : List Span) → IsNormalFrom floor xs
    → IsRisingFrom floor (borders xs)
borders_rise floor [] normal = tt
borders_rise floor (s ∷ rest) normal = (
  normal.0,
  (omega (arith, normal.1), borders_rise (s.until + 1) rest normal.2),
)

pub borders_end : (xs : List Span) → Ends false (borders xs)
borders_end [] = refl
borders_end (s ∷ rest) = borders_end rest

first_span : (a b t : ℕ) (c : Bool) → a < b → (t ≤ b → c ≡ false) → ((ltb a t && leb t b) || c)
    ≡ cond (ltb a t) (cond (ltb b t) c true) false
first_span a b t true span none = grind (arith, nat_tests)
first_span a b t false span none = grind (arith, nat_tests)

pub covers_status : (floor : ℕ) (xs : List Span) (t : ℕ) → IsNormalFrom floor xs
    → covers xs t ≡ status false (borders xs) t
covers_status floor [] t normal = refl
covers_status floor (s ∷ rest) t normal =
    first_span s.after s.until t (covers rest t) normal.1 (λ le. covers_floor (s.until + 1) rest t
    normal.2 (omega arith))
    ∙ ap (λ (b : Bool). cond (ltb s.after t) (cond (ltb s.until t) b true) false)
    (covers_status (s.until + 1) rest t normal.2)

-- as far as the borders nothing changes
pub status_low : (inside : Bool) (ps : List ℕ) (at t : ℕ) → IsRisingFrom at ps → t ≤ at
    → status inside ps t ≡ inside
status_low inside [] at t rising le = refl
status_low inside (p ∷ rest) at t rising le = let no : ltb p t ≡ false =
    grind (arith, nat_tests, rising.0) in rw no refl

-- the first border is the top or above, and all rise from any point up to it
pub front_from : (ps : List ℕ) (top more at : ℕ) → IsRisingFrom top ps → front_of ps ≡ Some at
    → more ≤ at → IsRisingFrom more ps
front_from [] top more at rising is le = cc
front_from (p ∷ rest) top more at rising is le = let same : p ≡ at = cc in (omega arith, rising.1)

pub front_low : (ps : List ℕ) (top at : ℕ) → IsRisingFrom top ps → front_of ps ≡ Some at → top ≤ at
front_low [] top at rising is = cc
front_low (p ∷ rest) top at rising is = let same : p ≡ at = cc in omega (arith, rising.0)

-- past the first border
pub rising_past : (ps : List ℕ) (top at : ℕ) → IsRisingFrom top ps → front_of ps ≡ Some at
    → IsRisingFrom (at + 1) (after_front ps)
rising_past [] top at rising is = cc
rising_past (p ∷ rest) top at rising is = let same : p ≡ at = cc in rw (← same) rising.1

pub ends_past : (inside : Bool) (ps : List ℕ) (at : ℕ) → Ends inside ps → front_of ps ≡ Some at
    → Ends (not inside) (after_front ps)
ends_past inside [] at ends is = cc
ends_past inside (p ∷ rest) at ends is = ends

pub status_past : (inside : Bool) (ps : List ℕ) (at t : ℕ) → front_of ps ≡ Some at → at < t
    → status inside ps t ≡ status (not inside) (after_front ps) t
status_past inside [] at t is lt = cc
status_past inside (p ∷ rest) at t is lt =
    let same : p ≡ at = cc in
    let yes : ltb p t ≡ true = grind (arith, nat_tests) in
    rw yes refl

-- after the last border nothing holds
pub ended : (inside : Bool) (ps : List ℕ) → ps ≡ [] → Ends inside ps → inside ≡ false
ended inside [] is ends = ends
ended inside (p ∷ rest) is ends = cc
