-- Public contracts speak by this: the points at which a row starts and ends to hold.
use Rattle.std.specs.Prelude.{ℕ, ◌+◌, Bool, not, ◌&&◌, List}
use Rattle.span_algebra.specs.Normal.{covers}
use Rattle.span_algebra.specs.declared.spans.Span.{Span}

-- a start, as *Truth at a point* has it: the row holds at the next point and not at this one
abbrev pub is_start : List Span → ℕ → Bool
is_start row t = not (covers row t) && covers row (t + 1)

-- an end: the row holds at this point and not at the next one
abbrev pub is_end : List Span → ℕ → Bool
is_end row t = covers row t && not (covers row (t + 1))
