-- For private functions alone: many lists of spans walked over side by side, border by border.
use Rattle.std.specs.Prelude.{ℕ, ◌≡◌, ◌⊎◌, nat_lt, Bool, true, false, not, ◌&&◌, ◌==◌}
use Rattle.std.specs.Prelude.{if◌then◌else◌, List, [], ◌∷◌, length, filter, All, Option, Some, None}
use Rattle.std.specs.List.{sum_by}
use Rattle.std.specs.List.Sorted.{IsPermutation}
use Rattle.std.specs.Ordering.{nat_cmp, on, flip_args}
use Rattle.std.specs.declared.cmp.Ordering.{Ordering}
use Rattle.std.specs.BinaryHeap.{IsHeap}
use Rattle.span_algebra.specs.Normal.{IsNormal, covers}
use Rattle.span_algebra.specs.declared.spans.Span.{Span}
use Rattle.span_algebra.specs.declared.cursor.Cursor.{Cursor}
use Rattle.span_algebra.specs.declared.cursor.Side.{Side}
use Rattle.span_algebra.specs.declared.cursor.Side.TheVariants.{Wanted, Barred}
use Rattle.span_algebra.specs.declared.walk.Held.{Held}
use Rattle.span_algebra.specs.declared.walk.Test.{Test}
use Rattle.span_algebra.specs.declared.walk.Test.TheVariants.{SomeAndNone, Exactly}

-- how many of some lists have a point
abbrev pub count_at : List (List Span) → ℕ → ℕ
count_at lists t = length (filter (λ l. covers l t) lists)

-- what a test comes to where so many of the lists that are wanted have a point, and so many of
-- those that are barred
abbrev pub answer_of : Test → ℕ → ℕ → Bool
answer_of SomeAndNone wanted barred = nat_lt 0 wanted && barred == 0
answer_of (Exactly count) wanted barred = wanted == count

-- a list stands on this side
abbrev pub stands_on : Side → Side → Bool
stands_on Wanted Wanted = true
stands_on Wanted Barred = false
stands_on Barred Wanted = false
stands_on Barred Barred = true

-- what a list of a side adds to the count of one, where it holds or not
abbrev pub one_on : Side → Bool → Side → ℕ
one_on side holds of = if stands_on side of && holds then 1 else 0

-- what some lists of a side add to the count of one
abbrev pub counted_on : Side → Side → ℕ → ℕ
counted_on side of count = if stands_on side of then count else 0

-- the count of a side
abbrev pub held_on : Side → Held → ℕ
held_on Wanted held = held.wanted
held_on Barred held = held.barred

-- how many lists of a side have a point, of lists that stand before their first borders
abbrev pub count_on : Side → List Cursor → ℕ → ℕ
count_on side cursors t = sum_by (λ c. one_on side (covers c.left.now t) c.side) cursors

-- the borders of spans
abbrev pub borders : List Span → List ℕ
borders [] = []
borders (s ∷ rest) = s.after ∷ s.until ∷ borders rest

-- those that are left where the walk is inside the first span, or before it
abbrev pub left_of : Bool → List Span → List ℕ
left_of false spans = borders spans
left_of true [] = []
left_of true (s ∷ rest) = s.until ∷ borders rest

-- the borders that a list has left
abbrev pub borders_of : Cursor → List ℕ
borders_of c = left_of c.inside c.left.now

-- the first of some items, and those after it
abbrev pub front_of : {X : Type 0} → List X → Option X
front_of [] = None
front_of (x ∷ rest) = Some x

abbrev pub after_front : {X : Type 0} → List X → List X
after_front [] = []
after_front (x ∷ rest) = rest

-- the lesser border comes first
abbrev pub by_border : Cursor → Cursor → Ordering
by_border = on (λ c. c.at) (flip_args nat_cmp)

-- the next border of the first list
abbrev pub first_at : List Cursor → Option ℕ
first_at [] = None
first_at (c ∷ rest) = Some c.at

-- the border is at this point
abbrev pub is_at : Option ℕ → ℕ → Bool
is_at None at = false
is_at (Some p) at = p == at

-- a normal list before its first border
abbrev pub IsBefore : Cursor → Type 0
IsBefore c = IsNormal c.left.now × (c.inside ≡ false) × (front_of (borders_of c) ≡ Some c.at)

-- lists that all stand before their first borders, and come out in the order of these
pub record AreCursors (cursors : List Cursor) : Type 0 where
  pub ordered : IsHeap by_border cursors
  pub before : All IsBefore cursors

-- a list past its border, where it has another
pub record IsPast (c n : Cursor) : Type 0 where
  pub inside : n.inside ≡ not c.inside
  pub borders : borders_of n ≡ after_front (borders_of c)
  pub side : n.side ≡ c.side
  pub front : front_of (borders_of n) ≡ Some n.at

-- the lists after one more has passed its border: it is among them for its next border, or it had
-- none
abbrev pub IsPassed : Cursor → List Cursor → List Cursor → Type 0
IsPassed c rest cursors = ((n : Cursor) × IsPast c n × IsPermutation (n ∷ rest) cursors)
    ⊎ ((after_front (borders_of c) ≡ []) × (cursors ≡ rest))

-- where the span begins that is open after a point past which the answer holds, or not
abbrev pub begun_after : Option ℕ → Bool → ℕ → Option ℕ
begun_after begun false at = None
begun_after None true at = Some at
begun_after (Some a) true at = Some a

-- the span that ends at that point
abbrev pub closed_at : Option ℕ → Bool → ℕ → List Span
closed_at begun true at = []
closed_at None false at = []
closed_at (Some a) false at = record { after = a; until = at } ∷ []
