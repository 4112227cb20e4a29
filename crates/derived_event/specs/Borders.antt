-- For private functions alone: the borders of a span.
use Rattle.std.specs.Prelude.{ℕ}
use Rattle.span_algebra.specs.declared.spans.Span.{Span}
use Rattle.derived_event.specs.declared.happening.Border.{Border}
use Rattle.derived_event.specs.declared.happening.Border.TheVariants.{After, Until}

-- the point before the first of a span, or its last point
abbrev pub border_of : Border → Span → ℕ
border_of After span = span.after
border_of Until span = span.until
