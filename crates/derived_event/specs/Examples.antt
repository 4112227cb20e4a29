-- Evidence for what public contracts speak by: starts and ends of small rows, computed. Each
-- equation holds by computation alone.
use Rattle.std.specs.Prelude.{◌≡◌, List, [], ◌∷◌, refl}
use Rattle.ground_types.specs.Rows.{points}
use Rattle.span_algebra.specs.declared.spans.Span.{Span}
use Rattle.derived_event.specs.Happening.{is_start, is_end}

-- over the window (0, 10], whose last value point is 11
abbrev row : List Span
row = record { after = 3; until = 7 } ∷ record { after = 9; until = 11 } ∷ []

row_starts : points (is_start row) 0 10 ≡ 3 ∷ 9 ∷ []
row_starts = refl

-- its second span goes on past the window
row_ends : points (is_end row) 0 10 ≡ 7 ∷ []
row_ends = refl

-- a row that is carried into the window has no start at its left border, and has an end
abbrev carried_in : List Span
carried_in = record { after = 3; until = 7 } ∷ []

carried_in_starts : points (is_start carried_in) 3 10 ≡ []
carried_in_starts = refl

carried_in_ends : points (is_end carried_in) 3 10 ≡ 7 ∷ []
carried_in_ends = refl
