-- For private functions alone: what a sweep over the points at which something happens does at
-- each point.
use Rattle.std.specs.Prelude.{◌≡◌, ℕ, ◌<◌, min, nat_lt, nat_le, Bool, true, false, ◌&&◌, ◌==◌}
use Rattle.std.specs.Prelude.{if◌then◌else◌, List, [], ◌∷◌, ◌++◌, filter, slice_set, slice_index_or}
use Rattle.std.specs.Prelude.{length, Option, Some, None}
use Rattle.ground_types.specs.Truth.{is_value}
use Rattle.span_algebra.specs.Normal.{IsNormal}
use Rattle.span_algebra.specs.declared.spans.Span.{Span}
use Rattle.simple_fluent.specs.declared.firsts.First.{First}

-- the value that is initiated at the point, if the list begins there
abbrev pub started : List First → ℕ → Option ℕ
started [] at = None
started (x ∷ rest) at = if x.at == at then Some x.value else None

-- the list without the point at its front
abbrev pub after_point : List ℕ → ℕ → List ℕ
after_point [] at = []
after_point (p ∷ rest) at = if p == at then rest else p ∷ rest

-- the lesser of the first points of two lists
abbrev pub next_of : List First → List ℕ → Option ℕ
next_of [] [] = None
next_of [] (t ∷ ts) = Some t
next_of (i ∷ is) [] = Some i.at
next_of (i ∷ is) (t ∷ ts) = Some (min i.at t)

-- both are the same value, or no value
abbrev pub is_same : Option ℕ → Option ℕ → Bool
is_same None None = true
is_same None (Some b) = false
is_same (Some a) None = false
is_same (Some a) (Some b) = a == b

-- the points above this one, up to and with q, at which a value is terminated
abbrev pub terms_from : List (List ℕ) → Option ℕ → ℕ → ℕ → List ℕ
terms_from terms None above q = []
terms_from terms (Some v) above q = filter (λ t. nat_lt above t && nat_le t q)
    (slice_index_or terms v [])

-- the terminations that are left past a point after which the value is the next one
abbrev pub terms_after : List (List ℕ) → List ℕ → Option ℕ → Option ℕ → ℕ → ℕ → List ℕ
terms_after terms left current next at q = if is_same current next then after_point left at
    else terms_from terms next at q

-- where the span begins that is open after the point
abbrev pub since_after : Option ℕ → ℕ → Option ℕ → ℕ → ℕ
since_after None since next at = at
since_after (Some c) since next at = if is_value next c then since else at

-- the rows with the span that ends at the point
abbrev pub rows_after : List (List Span) → Option ℕ → ℕ → Option ℕ → ℕ → List (List Span)
rows_after rows None since next at = rows
rows_after rows (Some c) since next at =
    if is_value next c then rows else slice_set rows c (slice_index_or rows c [] ++ record
    { after = since; until = at } ∷ [])

-- the span that ends there can go to the end of its row
abbrev pub CanPass : List (List Span) → Option ℕ → ℕ → Option ℕ → ℕ → Type 0
CanPass rows None since next at = Unit {0}
CanPass rows (Some c) since next at =
    (c < length rows) × (is_value next c ≡ false
    → IsNormal (slice_index_or rows c [] ++ record { after = since; until = at } ∷ []))
